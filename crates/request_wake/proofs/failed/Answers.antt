-- `request_wake::failed` meets its contract. Assumes nothing.
use borrow.Author.Tests.{eq-eqb, ne_eqb}
use Rattle.model.specs.Logic.{when◌then◌else◌}
use Rattle.request_wake.specs.Wakes.{failed}
use Rattle.request_wake.proofs.failed.Goals as goal

pub returns-then-p-t : goal.returns-then-p-t
unfolding failed when◌then◌else◌
returns-then-p-t c = rw (eq-eqb _ _ c.if-p-t.true)

pub returns-else-p-t : goal.returns-else-p-t
unfolding failed when◌then◌else◌
returns-else-p-t c = rw (ne_eqb _ _ c.if-p-t.false)
