-- `table::link_fits` meets its contract. Assumes nothing.
use Rattle.model.specs.Table.{link_fits}
use Rattle.table.proofs.link_fits.Goals as goal

pub returns : goal.returns
unfolding link_fits
returns c = cc
