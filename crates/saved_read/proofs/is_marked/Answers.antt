-- `saved_read::is_marked` meets its contract: the first three bytes. Assumes nothing.
use mathlib.Core.Path.{◌∙◌}
use Rattle.saved_read.proofs.Heads.{marked_by}
use Rattle.saved_read.proofs.is_marked.Goals as goal

pub returns : goal.returns
returns c = c.starts_with.ensures.value ∙ marked_by _ c.requires
