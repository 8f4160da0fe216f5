-- `export_cells::set_used` meets its contract. Assumes nothing.
use Rattle.model.specs.Limits.{LINKS, ROWS}
use Rattle.memory.specs.Layout.{BYTES}
use Rattle.export_cells.proofs.set_used.Goals as goal

pub returns : goal.returns
unfolding BYTES ROWS LINKS
returns c = λ words long. rw (c.carry-carried.ensures words long) at (c.set_carried.ensures words long)
