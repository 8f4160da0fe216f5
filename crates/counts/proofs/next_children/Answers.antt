-- The two exits are the cases of the definition. Assumes nothing.
use native.Mathlib.Omega.{arith}
use native.Mathlib.Decide.{dec_lt}
use borrow.Author.Tests.{le-leb, lt-leb}
use Rattle.model.specs.Logic.{when◌then◌else◌}
use Rattle.counts.specs.Shifts.{next_up_to}
use Rattle.counts.proofs.next_children.Goals as goal

-- up, where it stays at the most
pub returns-then-up : goal.returns-then-up
unfolding next_up_to when◌then◌else◌
returns-then-up c =
    elim (dec_lt c.args.children 255) [
      | yes l ↦ rw (c.if-up.true, lt-leb 255 c.args.children l) (omega arith)
      | no g ↦ rw (c.if-up.true, le-leb 255 c.args.children (omega arith)) (omega arith)
    ]

-- down
pub returns-else-up : goal.returns-else-up
unfolding next_up_to when◌then◌else◌
returns-else-up c = rw c.if-up.false c.saturating_sub.ensures
