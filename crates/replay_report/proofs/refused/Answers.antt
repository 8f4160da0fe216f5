-- `replay_report::refused` meets its contract. Assumes nothing.
use mathlib.Core.Path.{◌∙◌}
use native.Mathlib.Omega.{arith}
use Rattle.table.specs.Answers.{answer_of}
use Rattle.replay_text.specs.Text.{ascii}
use Rattle.replay_report.specs.Lines.{refused_text}
use Rattle.replay_text.proofs.Adding.{holds_start, holds_word, holds_field}
use Rattle.replay_report.proofs.refused.Goals as goal

pub returns : goal.returns
unfolding ascii refused_text
returns c =
    let answer = answer_of c.args.answer in
    let n = c.from.ensures ∙ c.number.ensures in
    let i = c.from-2.ensures ∙ c.index.ensures in
    let g = holds_field (ascii "table refused ") answer.number (holds_start c.start.ensures) n c.field-numbered.ensures (omega arith) in
    let k = holds_field (ascii " ") answer.index g i c.field-indexed.ensures (omega arith) in
    (holds_word (ascii "\n") k c.word.ensures (omega arith)).line
