-- `memory::set_devices` meets its contract. Assumes nothing.
use Rattle.model.specs.Limits.{ROWS, LINKS}
use Rattle.memory.proofs.Stores.{put_count}
use Rattle.memory.proofs.set_devices.Goals as goal

pub returns : goal.returns
unfolding ROWS LINKS
returns c = λ words long. put_count _ words _ long
