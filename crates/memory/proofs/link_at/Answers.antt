-- `memory::link_at` meets its contract: a column has no row outside its page, and row p of a page is the cell read. Assumes nothing.
use mathlib.Core.Path.{refl}
use Rattle.model.specs.Limits.{ROWS, LINKS}
use Rattle.memory.proofs.Pages.{column_get, link_out, link_read}
use Rattle.memory.proofs.link_at.Goals as goal

pub returns : goal.returns
unfolding ROWS LINKS
returns c = column_get _ c.get.ensures.inside c.get.ensures.outside (λ few l. link_read _ _ _ l few refl) (link_out _ _ _)
