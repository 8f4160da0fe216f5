-- `list_report::long` meets its contract: word by word, the line holds the text. Assumes nothing.
use native.Mathlib.Omega.{arith}
use Rattle.replay_text.specs.Text.{ascii}
use Rattle.replay_text.proofs.Adding.{holds_start, holds_word}
use Rattle.list_report.specs.Lines.{long_text}
use Rattle.list_report.proofs.long.Goals as goal

pub returns : goal.returns
unfolding ascii long_text
returns c = (holds_word (ascii "list too long\n") (holds_start c.start.ensures) c.word.ensures (omega arith)).line
