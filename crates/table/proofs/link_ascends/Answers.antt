-- `table::link_ascends` meets its contract. Assumes nothing.
use native.Mathlib.Omega.{arith}
use Rattle.std.proofs.lemmas.Grind.{common_steps}
use Rattle.model.specs.Table.{ascends, before}
use Rattle.table.proofs.link_ascends.Goals as goal

pub returns-then-i-eq0 : goal.returns-then-i-eq0
unfolding ascends before
returns-then-i-eq0 c = grind (arith, common_steps)

pub returns : goal.returns
unfolding ascends before
returns c = grind (arith, common_steps)
