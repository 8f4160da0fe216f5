-- The two exits are the cases of the definition. Assumes nothing.
use native.Mathlib.Omega.{arith}
use native.Mathlib.Decide.{dec_lt}
use borrow.Author.Tests.{le-leb, lt-leb, le-ltb, lt-ltb}
use Rattle.model.specs.Logic.{when◌then◌else◌}
use Rattle.counts.specs.Shifts.{next_up_to}
use Rattle.counts.proofs.next_links.Goals as goal

-- up, where it stays at the most
pub returns-then-up : goal.returns-then-up
unfolding next_up_to when◌then◌else◌
returns-then-up c =
    elim (dec_lt c.args.links 65535) [
      | yes l ↦ rw (c.from.ensures, lt-ltb c.args.links 65535 l, c.if-up.true, lt-leb 65535 c.args.links l)
      | no g ↦ rw (c.from.ensures, le-ltb c.args.links 65535 (omega arith), c.if-up.true, le-leb 65535 c.args.links (omega arith)) (omega arith)
    ]

-- down
pub returns-else-up : goal.returns-else-up
unfolding next_up_to when◌then◌else◌
returns-else-up c = rw c.if-up.false c.saturating_sub.ensures
