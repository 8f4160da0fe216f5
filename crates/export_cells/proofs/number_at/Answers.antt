-- `export_cells::number_at` meets its contract: each arm reads the number that the list has there; the carried bytes stand from 6
-- on. Assumes nothing.
use mathlib.Core.Path.{◌≡◌, ◌∙◌}
use native.Mathlib.Omega.{arith}
use Rattle.export_cells.specs.Cells.{numbers_of}
use Rattle.export_cells.proofs.Fields.{carried_number}
use Rattle.export_cells.proofs.number_at.Goals as goal

-- a carried byte
pub returns-then-i-ge6 : goal.returns-then-i-ge6
returns-then-i-ge6 c = c.from.ensures ∙ c.carried.ensures _ ∙ carried_number _ _ (omega arith)

-- n
pub returns-in-0 : goal.returns-in-0
unfolding numbers_of
returns-in-0 c = rw c.in-0.is (c.from-in-0.ensures ∙ c.devices.ensures _)

-- m
pub returns-in-1 : goal.returns-in-1
unfolding numbers_of
returns-in-1 c = rw c.in-1.is (c.links.ensures _)

-- the open callback
pub returns-in-2 : goal.returns-in-2
unfolding numbers_of
returns-in-2 c = rw c.in-2.is (c.from-in-2.ensures ∙ c.callback.ensures _)

pub returns-in-3 : goal.returns-in-3
unfolding numbers_of
returns-in-3 c = rw c.in-3.is (c.from-in-3.ensures ∙ c.asked.ensures _)

pub returns-in-4 : goal.returns-in-4
unfolding numbers_of
returns-in-4 c = rw c.in-4.is (c.from-in-4.ensures ∙ c.target.ensures _)

-- how many bytes are carried
pub returns-in_default : goal.returns-in_default
unfolding numbers_of
returns-in_default c = let last : c.args.i ≡ 5 = omega arith in rw last (c.from-in_default.ensures ∙ c.used.ensures _)
