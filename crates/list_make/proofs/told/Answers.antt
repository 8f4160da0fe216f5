-- `list_make::told` meets its contract. Assumes nothing.
use Rattle.list_make.proofs.Telling.{outcome_written, outcome_refused}
use Rattle.list_make.proofs.told.Goals as goal

pub returns-in-Ok : goal.returns-in-Ok
returns-in-Ok c = outcome_written _ _ c.in-Ok.is

pub returns-in-Err : goal.returns-in-Err
returns-in-Err c = outcome_refused _ _ _ c.in-Err.is c.number.ensures c.index.ensures c.refused_line.ensures
