-- `export_cells::tests_cell` meets its contract: the page read is the field's. Assumes nothing.
use mathlib.Core.Path.{◌∙◌}
use native.Mathlib.Omega.{arith}
use Rattle.export_cells.proofs.Fields.{byte_cell, link_cell, word_cell, number_cell, no_cell}
use Rattle.export_cells.proofs.tests_cell.Goals as goal

-- a page of bytes of the devices
pub returns-in-0-to-4 : goal.returns-in-0-to-4
returns-in-0-to-4 c =
    byte_cell _ _ _ _ (omega arith) (rw (c.from-i.ensures, c.from.ensures) at (c.from-in-0-to-4.ensures ∙ c.byte_at.ensures))

-- a page of the links
pub returns-in-5-to-7 : goal.returns-in-5-to-7
returns-in-5-to-7 c =
    link_cell _ _ _ _ (omega arith) (omega arith) (rw (c.from-i.ensures, c.from-in-5-to-7.ensures) at (c.from-in-5-to-7-2.ensures ∙ c.link_at.ensures))

-- a page of words
pub returns-in-8-to-10 : goal.returns-in-8-to-10
returns-in-8-to-10 c =
    word_cell _ _ _ _ (omega arith) (omega arith) (rw (c.from-i.ensures, c.from-in-8-to-10.ensures) at c.word_at.ensures)

-- the numbers of the whole bench
pub returns-in-11 : goal.returns-in-11
returns-in-11 c = number_cell _ _ _ _ (omega arith) (omega arith) (rw c.from-i.ensures at c.number_at.ensures)

-- no such field
pub returns-in_default : goal.returns-in_default
returns-in_default c = no_cell _ _ _ (omega arith)
