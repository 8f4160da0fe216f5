-- `replay_report::replies` meets its contract. Assumes nothing.
use mathlib.Core.Path.{refl}
use native.Mathlib.Omega.{arith}
use Rattle.replay_text.specs.Text.{ascii}
use Rattle.replay_report.specs.Lines.{replies_text}
use Rattle.replay_text.proofs.Adding.{holds_start, holds_word, holds_field}
use Rattle.replay_report.proofs.replies.Goals as goal

pub returns : goal.returns
unfolding ascii replies_text
returns c =
    let g = holds_field (ascii "replies ") c.args.count (holds_start c.start.ensures) refl c.field.ensures (omega arith) in
    (holds_word (ascii "\n") g c.word.ensures (omega arith)).line
