-- `table::device_good` meets its contract. Assumes nothing.
use Rattle.model.specs.Table.{device_good}
use Rattle.table.proofs.device_good.Goals as goal

pub returns : goal.returns
unfolding device_good
returns c = cc
