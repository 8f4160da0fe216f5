-- `keeper::empty` meets its contract: it is the memory of zeros. Assumes nothing.
use Rattle.model.specs.Limits.{LINKS, ROWS}
use Rattle.memory.specs.Layout.{BYTES, WORDS}
use Rattle.memory.proofs.Inverse.{empty_memory}
use Rattle.keeper.proofs.empty.Goals as goal

pub returns : goal.returns
unfolding BYTES WORDS ROWS LINKS
returns c = empty_memory
