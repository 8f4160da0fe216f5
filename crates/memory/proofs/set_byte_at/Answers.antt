-- `memory::set_byte_at` meets its contract: a column has no row outside its page, and row p of a page is the cell written. Assumes nothing.
use native.Mathlib.Nat.{zero-add}
use Rattle.model.specs.Limits.{ROWS}
use Rattle.memory.specs.Layout.{BYTEPAGES}
use Rattle.memory.specs.Stored.{Stored}
use Rattle.memory.proofs.Pages.{device_out}
use Rattle.memory.proofs.Stores.{store_made, byte_stored, byte_same}
use Rattle.memory.proofs.set_byte_at.Goals as goal

pub returns : goal.returns
unfolding ROWS
returns c = store_made (Stored _ _ _ _) c.put.ensures.inside c.put.ensures.outside (λ few l. rw zero-add (byte_stored _ _ _ _ few l)) (λ o. byte_same _ _ _ _ (device_out _ _ BYTEPAGES _ o))
