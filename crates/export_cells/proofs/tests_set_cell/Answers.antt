-- `export_cells::tests_set_cell` meets its contract: the page that is stored into is the field's. Assumes nothing.
use mathlib.Core.Path.{◌∙◌}
use native.Mathlib.Omega.{arith}
use Rattle.export_cells.proofs.Fields.{byte_set, link_set, word_set, number_set, nothing_set}
use Rattle.export_cells.proofs.tests_set_cell.Goals as goal

-- a page of bytes of the devices
pub returns-in-0-to-4 : goal.returns-in-0-to-4
returns-in-0-to-4 c =
    let set = byte_set _ _ (omega arith) (rw (c.from-i.ensures, c.from.ensures, c.low-v.ensures) at c.set_byte_at.ensures) _ in
    record { column = λ l. set; is = λ l m. set }

-- a page of the links
pub returns-in-5-to-7 : goal.returns-in-5-to-7
returns-in-5-to-7 c =
    let set = link_set _ _ (omega arith) (omega arith) (rw (c.from-i.ensures, c.from-in-5-to-7.ensures, c.low-v.ensures) at c.set_link_at.ensures) _ in
    record { column = λ l. set; is = λ l m. set }

-- a page of words
pub returns-in-8-to-10 : goal.returns-in-8-to-10
returns-in-8-to-10 c =
    let set = word_set _ (omega arith) (omega arith) (rw (c.from-i.ensures, c.from-in-8-to-10.ensures) at c.set_word_at.ensures) _ in
    record { column = λ l. set; is = λ l m. set }

-- the numbers of the whole bench
pub returns-in-11 : goal.returns-in-11
returns-in-11 c =
    record {
      column = λ l. absurd (omega arith);
      is = λ l m. (rw c.from-i.ensures at c.set_number.ensures).is l m ∙ number_set _ _ _ _ (omega arith) (omega arith);
    }

-- no such field
pub returns-else-field-lt11 : goal.returns-else-field-lt11
returns-else-field-lt11 c = record { column = λ l. absurd (omega arith); is = λ l m. nothing_set _ _ _ _ (omega arith) }
