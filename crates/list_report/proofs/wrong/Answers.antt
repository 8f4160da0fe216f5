-- `list_report::wrong` meets its contract: word by word, the line holds the text. Assumes nothing.
use mathlib.Core.Path.{refl}
use native.Mathlib.Omega.{arith}
use Rattle.replay_text.specs.Text.{ascii}
use Rattle.replay_text.proofs.Adding.{holds_start, holds_word, holds_field}
use Rattle.list_report.specs.Lines.{wrong_text}
use Rattle.list_report.proofs.wrong.Goals as goal

pub returns : goal.returns
unfolding ascii wrong_text
returns c =
    let g = holds_field (ascii "line ") c.args.line (holds_start c.start.ensures) refl c.field.ensures (omega arith) in
    (holds_word (ascii ": neither a part nor a link\n") g c.word.ensures (omega arith)).line
