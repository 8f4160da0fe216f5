-- `memory::set_link_at` meets its contract: a column has no row outside its page, and row p of a page is the cell written. Assumes nothing.
use Rattle.model.specs.Limits.{ROWS, LINKS}
use Rattle.memory.specs.Stored.{StoredLink}
use Rattle.memory.proofs.Pages.{link_out}
use Rattle.memory.proofs.Stores.{store_made, link_stored, link_same}
use Rattle.memory.proofs.set_link_at.Goals as goal

pub returns : goal.returns
unfolding ROWS LINKS
returns c = store_made (StoredLink _ _ _ _) c.put.ensures.inside c.put.ensures.outside (link_stored _ _ _ _) (λ o. link_same _ _ _ _ (link_out _ _ _ o))
