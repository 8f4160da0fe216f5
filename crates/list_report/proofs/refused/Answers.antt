-- `list_report::refused` meets its contract: word by word, the line holds the text. Assumes nothing.
use mathlib.Core.Path.{refl}
use native.Mathlib.Omega.{arith}
use Rattle.replay_text.specs.Text.{ascii}
use Rattle.replay_text.proofs.Adding.{holds_start, holds_word, holds_field}
use Rattle.list_report.specs.Lines.{refused_text}
use Rattle.list_report.proofs.refused.Goals as goal

pub returns : goal.returns
unfolding ascii refused_text
returns c =
    let a = c.args in
    let g = holds_field (ascii "refused ") a.number (holds_start c.start.ensures) refl c.field-numbered.ensures (omega arith) in
    let k = holds_field (ascii " ") a.index g refl c.field-indexed.ensures (omega arith) in
    let l = holds_field (ascii " line ") a.line k refl c.field.ensures (omega arith) in
    (holds_word (ascii "\n") l c.word.ensures (omega arith)).line
