-- `table::length_good` meets its contract. Assumes nothing.
use Rattle.model.specs.Table.{length_good}
use Rattle.table.proofs.length_good.Goals as goal

pub returns : goal.returns
unfolding length_good
returns c = cc
