-- `table_entries::parent_good` meets its contract. Assumes nothing.
use mathlib.Core.Path.{refl}
use Rattle.model.specs.Table.{parent_good}
use Rattle.table_entries.proofs.parent_good.Goals as goal

pub returns : goal.returns
unfolding parent_good
returns c = refl
