-- `memory::carried` meets its contract. Assumes nothing.
use mathlib.Core.Path.{sym}
use native.Mathlib.Omega.{arith}
use Rattle.model.specs.Limits.{ROWS, LINKS}
use Rattle.memory.specs.Layout.{area, state_in}
use Rattle.memory.proofs.Pages.{no_row, carried_read, carried_row}
use Rattle.memory.proofs.carried.Goals as goal

-- there are three
pub returns-then-i-ge3 : goal.returns-then-i-ge3
unfolding state_in
returns-then-i-ge3 c = λ words. no_row (area _ _ _) _ (carried_row _ _ (omega arith))

-- the cell
pub returns : goal.returns
unfolding state_in ROWS LINKS
returns c = λ words. sym (carried_read _ _ (omega arith) (omega arith))
