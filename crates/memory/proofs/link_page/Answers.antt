-- `memory::link_page` meets its contract. Assumes nothing.
use Rattle.model.specs.Limits.{ROWS, LINKS}
use Rattle.memory.proofs.Pages.{link_slice}
use Rattle.memory.proofs.link_page.Goals as goal

pub returns : goal.returns
unfolding ROWS LINKS
returns c = link_slice _ _ c.page_of.ensures.inside c.page_of.ensures.outside
