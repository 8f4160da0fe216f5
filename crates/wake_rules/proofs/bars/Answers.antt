-- The two tests are those of the definition. Assumes nothing.
use Rattle.model.specs.Requests.{barred}
use Rattle.wake_rules.proofs.bars.Goals as goal

pub returns : goal.returns
unfolding barred
returns c = rw (← c.error.ensures, ← c.depth.ensures)
