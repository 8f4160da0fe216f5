-- `memory::callback` meets its contract. Assumes nothing.
use mathlib.Core.Path.{sym}
use native.Mathlib.Omega.{arith}
use Rattle.model.specs.Limits.{ROWS, LINKS}
use Rattle.memory.specs.Layout.{KIND, state_in}
use Rattle.memory.proofs.Pages.{tail_read}
use Rattle.memory.proofs.callback.Goals as goal

pub returns : goal.returns
unfolding state_in ROWS LINKS
returns c = λ words. sym (tail_read _ KIND (omega arith))
