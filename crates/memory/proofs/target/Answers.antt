-- `memory::target` meets its contract. Assumes nothing.
use mathlib.Core.Path.{sym}
use native.Mathlib.Omega.{arith}
use Rattle.model.specs.Limits.{ROWS, LINKS}
use Rattle.memory.specs.Layout.{TARGET, state_in}
use Rattle.memory.proofs.Pages.{tail_read}
use Rattle.memory.proofs.target.Goals as goal

pub returns : goal.returns
unfolding state_in ROWS LINKS
returns c = λ words. sym (tail_read _ TARGET (omega arith))
