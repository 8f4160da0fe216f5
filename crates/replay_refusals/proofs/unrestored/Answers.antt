-- `replay_refusals::unrestored` meets its contract. Assumes nothing.
use native.Mathlib.Omega.{arith}
use Rattle.replay_text.specs.Text.{ascii}
use Rattle.replay_refusals.specs.Lines.{unrestored_text}
use Rattle.replay_text.proofs.Adding.{holds_start, holds_word, holds_field}
use Rattle.replay_refusals.proofs.unrestored.Goals as goal

pub returns : goal.returns
unfolding ascii unrestored_text
returns c =
    let h = holds_start c.start.ensures in
    let g = holds_field (ascii "state refused ") c.args.number h c.from.ensures c.field.ensures (omega arith) in
    (holds_word (ascii "\n") g c.word.ensures (omega arith)).line
