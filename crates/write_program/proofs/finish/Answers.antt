-- `write_program::finish` meets its contract: a table is stored, and anything else told. Assumes nothing.
use mathlib.Core.Path.{sym}
use lib.Seq.{length-take-le}
use Rattle.write_program.proofs.Ending.{ended}
use Rattle.write_program.proofs.finish.Goals as goal

pub slice_bounds-store-end : goal.slice_bounds-store-end
slice_bounds-store-end g c =
    sym (length-take-le _ _ (c.requires.room _ c.in-Ok.is))

pub store-requires : goal.store-requires
store-requires g c =
    c.requires.table _ c.in-Ok.is

-- the table
pub returns-in-Ok : goal.returns-in-Ok
returns-in-Ok g c = ended _ c.in-Ok.is c.store.ensures

-- no table
pub returns-in-Err : goal.returns-in-Err
returns-in-Err g c = ended _ c.in-Err.is c.tell.ensures
