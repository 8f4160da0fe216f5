-- `table_entries::ends_good` meets its contract. Assumes nothing.
use mathlib.Core.Path.{refl}
use Rattle.model.specs.Table.{ends_good}
use Rattle.table_entries.proofs.ends_good.Goals as goal

pub returns : goal.returns
unfolding ends_good
returns c = refl
