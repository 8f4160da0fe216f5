-- `saved_read::cells_of` meets its contract: the spans of version 1 fit, and are laid over zeros. Assumes nothing.
use mathlib.Core.Path.{refl}
use Rattle.model.specs.Limits.{ROWS, LINKS}
use Rattle.memory.specs.Layout.{BYTES, WORDS}
use Rattle.saved_form.specs.Form.{FORM}
use Rattle.saved_read.proofs.Heads.{version1_fits, zeros_long, cells_filled}
use Rattle.saved_read.proofs.cells_of.Goals as goal

pub fill-requires : goal.fill-requires
unfolding FORM BYTES WORDS ROWS LINKS
fill-requires c = version1_fits _ _ _ c.requires (zeros_long refl) (zeros_long refl)

pub returns : goal.returns
unfolding BYTES WORDS ROWS LINKS
returns c = cells_filled refl refl c.fill.ensures
