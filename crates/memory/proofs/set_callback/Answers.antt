-- `memory::set_callback` meets its contract. Assumes nothing.
use Rattle.model.specs.Limits.{ROWS, LINKS}
use Rattle.memory.proofs.Stores.{put_callback}
use Rattle.memory.proofs.set_callback.Goals as goal

pub returns : goal.returns
unfolding ROWS LINKS
returns c = λ words long. put_callback _ words _ _ _ long
