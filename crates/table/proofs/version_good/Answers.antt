-- `table::version_good` meets its contract. Assumes nothing.
use native.Mathlib.Omega.{arith}
use Rattle.std.proofs.lemmas.Grind.{common_steps}
use Rattle.model.specs.Table.{version_good}
use Rattle.table.proofs.version_good.Goals as goal

pub returns : goal.returns
unfolding version_good
returns c = grind (arith, common_steps)
