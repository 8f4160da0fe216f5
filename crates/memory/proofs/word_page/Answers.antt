-- `memory::word_page` meets its contract. Assumes nothing.
use Rattle.model.specs.Limits.{ROWS}
use Rattle.memory.specs.Layout.{WORDPAGES}
use Rattle.memory.proofs.Pages.{device_slice}
use Rattle.memory.proofs.word_page.Goals as goal

pub returns : goal.returns
unfolding ROWS
returns c = device_slice WORDPAGES _ _ c.page_of.ensures.inside c.page_of.ensures.outside
