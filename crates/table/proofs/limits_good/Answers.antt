-- `table::limits_good` meets its contract. Assumes nothing.
use native.Mathlib.Omega.{arith}
use Rattle.std.proofs.lemmas.Grind.{common_steps}
use Rattle.model.specs.Limits.{DEVICES, LINKS}
use Rattle.model.specs.Table.{limits_good}
use Rattle.table.proofs.limits_good.Goals as goal

pub returns : goal.returns
unfolding limits_good DEVICES LINKS
returns c = grind (arith, common_steps)
