-- `list_report::large` meets its contract: word by word, the line holds the text. Assumes nothing.
use mathlib.Core.Path.{refl}
use native.Mathlib.Omega.{arith}
use Rattle.replay_text.specs.Text.{ascii}
use Rattle.replay_text.proofs.Adding.{holds_start, holds_word, holds_field}
use Rattle.list_report.specs.Lines.{large_text}
use Rattle.list_report.proofs.large.Goals as goal

pub returns : goal.returns
unfolding ascii large_text
returns c =
    let g = holds_field (ascii "line ") c.args.line (holds_start c.start.ensures) refl c.field.ensures (omega arith) in
    (holds_word (ascii ": a number is over 255\n") g c.word.ensures (omega arith)).line
