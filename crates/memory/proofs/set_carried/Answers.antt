-- `memory::set_carried` meets its contract. Assumes nothing.
use Rattle.model.specs.Limits.{ROWS, LINKS}
use Rattle.memory.proofs.Stores.{put_carried}
use borrow.Author.Rules.{rules}
use Rattle.memory.proofs.set_carried.Goals as goal

pub returns : goal.returns
unfolding ROWS LINKS
returns c = λ words long. let g = c.well_formed.1.0 in put_carried _ words _ _ long (search rules)
