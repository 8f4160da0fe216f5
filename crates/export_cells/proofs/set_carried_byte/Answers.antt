-- `export_cells::set_carried_byte` meets its contract. Assumes nothing.
use native.Mathlib.Omega.{arith}
use Rattle.model.specs.Limits.{LINKS, ROWS}
use Rattle.memory.specs.Layout.{BYTES}
use Rattle.export_cells.proofs.Fields.{carried_same}
use Rattle.export_cells.proofs.set_carried_byte.Goals as goal

-- no such byte
pub returns-then-i-ge3 : goal.returns-then-i-ge3
returns-then-i-ge3 c = λ words long. carried_same _ words _ _ (omega arith)

-- one of the three
pub returns : goal.returns
unfolding BYTES ROWS LINKS
returns c =
    λ words long. rw (c.carry-carried.ensures words long, c.used-used.ensures words) at (c.set_carried.ensures words long)
