-- `memory::carry` meets its contract. Assumes nothing.
use Rattle.model.specs.Limits.{ROWS, LINKS}
use Rattle.memory.specs.Layout.{state_in, BYTES}
use Rattle.memory.proofs.Pages.{carried_all}
use Rattle.memory.proofs.carry.Goals as goal

pub returns : goal.returns
unfolding state_in ROWS LINKS BYTES
returns c = λ words long. carried_all _ long
