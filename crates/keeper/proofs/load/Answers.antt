-- `keeper::load` meets its contract, by the answer of the judge. Assumes nothing.
use borrow.Author.Tests.{ne_eqb}
use Rattle.model.specs.Logic.{when◌then◌else◌}
use Rattle.model.specs.State.{load_of}
use Rattle.table.proofs.Handing.{refused}
use Rattle.keeper.proofs.load.Goals as goal

-- taken
pub returns-in-Ok : goal.returns-in-Ok
unfolding load_of when◌then◌else◌
returns-in-Ok c = rw (← c.judge-answer.ensures, c.in-Ok.is, c.at_rest-bench.ensures)

-- refused
pub returns-in-Err : goal.returns-in-Err
unfolding load_of when◌then◌else◌
returns-in-Err c = rw (← c.judge-answer.ensures, c.in-Err.is, ne_eqb _ 0 (refused c.in-Err.field-0), c.empty-bench.ensures)
