-- `memory::word_at` meets its contract: a column has no row outside its page, and row p of a page is the cell read. Assumes nothing.
use native.Mathlib.Nat.{zero-add}
use Rattle.model.specs.Limits.{ROWS}
use Rattle.memory.specs.Layout.{WORDPAGES}
use Rattle.memory.proofs.Pages.{column_get, device_out, device_read}
use Rattle.memory.proofs.word_at.Goals as goal

pub returns : goal.returns
unfolding ROWS
returns c = column_get _ c.get.ensures.inside c.get.ensures.outside (λ few l. rw zero-add (device_read WORDPAGES _ _ _ l few)) (device_out _ _ WORDPAGES _)
