-- The two tests, joined, are those of the definition. Assumes nothing.
use Rattle.model.specs.Requests.{running}
use Rattle.request_set.proofs.running.Goals as goal

pub returns : goal.returns
unfolding running
returns c = rw (← c.depth.ensures, ← c.error.ensures)
