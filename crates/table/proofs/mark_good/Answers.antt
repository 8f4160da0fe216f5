-- `table::mark_good` meets its contract. Assumes nothing.
use Rattle.std.proofs.lemmas.Grind.{common_steps}
use native.Mathlib.Omega.{arith}
use Rattle.model.specs.Table.{mark_good}
use Rattle.table.proofs.mark_good.Goals as goal

pub returns : goal.returns
unfolding mark_good
returns c = grind (arith, common_steps)
