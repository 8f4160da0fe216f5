-- `replay_program::keep` ends as keeping a bench does. Assumes nothing.
use Rattle.state_file.proofs.Ending.{kept_ran}
use Rattle.replay_program.proofs.keep.Goals as goal

pub returns : goal.returns
returns g c = kept_ran c.keep.ensures
