-- `memory::devices` meets its contract. Assumes nothing.
use mathlib.Core.Path.{sym}
use native.Mathlib.Omega.{arith}
use Rattle.model.specs.Limits.{ROWS, LINKS}
use Rattle.memory.specs.Layout.{COUNT, state_in}
use Rattle.memory.proofs.Pages.{tail_read}
use Rattle.memory.proofs.devices.Goals as goal

pub returns : goal.returns
unfolding state_in ROWS LINKS
returns c = λ words. sym (tail_read _ COUNT (omega arith))
