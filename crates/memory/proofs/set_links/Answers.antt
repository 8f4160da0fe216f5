-- `memory::set_links` meets its contract. Assumes nothing.
use Rattle.model.specs.Limits.{ROWS}
use Rattle.memory.proofs.Stores.{put_links}
use Rattle.memory.proofs.set_links.Goals as goal

pub returns : goal.returns
unfolding ROWS
returns c = λ bytes long. put_links bytes _ _ long
