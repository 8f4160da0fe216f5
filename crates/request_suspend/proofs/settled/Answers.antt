-- `request_suspend::settled` meets its contract. Assumes nothing.
use Rattle.request_suspend.specs.Parts.{settled}
use Rattle.request_suspend.proofs.settled.Goals as goal

pub returns : goal.returns
unfolding settled
returns c = c.choose.ensures
