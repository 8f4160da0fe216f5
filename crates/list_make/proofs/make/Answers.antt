-- `list_make::make` meets its contract: by what the first faulty line is. Assumes nothing.
use mathlib.Core.Path.{refl}
use Rattle.list_make.proofs.Telling.{by_fault}
use Rattle.list_make.proofs.make.Goals as goal

-- none
pub returns-in-Ok : goal.returns-in-Ok
returns-in-Ok c = by_fault _ c.fault_in.ensures c.in-Ok.is c.compile.ensures

-- one
pub returns-in-Err : goal.returns-in-Err
returns-in-Err c = by_fault _ c.fault_in.ensures c.in-Err.is (refl, refl)
