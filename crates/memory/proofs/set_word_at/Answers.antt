-- `memory::set_word_at` meets its contract: a column has no row outside its page, and row p of a page is the cell written. Assumes nothing.
use native.Mathlib.Nat.{zero-add}
use Rattle.model.specs.Limits.{ROWS}
use Rattle.memory.specs.Layout.{WORDPAGES}
use Rattle.memory.specs.Stored.{StoredWord}
use Rattle.memory.proofs.Pages.{device_out}
use Rattle.memory.proofs.Stores.{store_made, word_stored, word_same}
use Rattle.memory.proofs.set_word_at.Goals as goal

pub returns : goal.returns
unfolding ROWS
returns c = store_made (StoredWord _ _ _ _) c.put.ensures.inside c.put.ensures.outside (λ few l. rw zero-add (word_stored _ _ _ _ few l)) (λ o. word_same _ _ _ _ (device_out _ _ WORDPAGES _ o))
