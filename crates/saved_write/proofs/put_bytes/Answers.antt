-- `saved_write::put_bytes` meets its contract: the part is replaced whole. Assumes nothing.
use mathlib.Core.Path.{refl}
use Rattle.saved_copy.proofs.Parts.{laid_put}
use Rattle.saved_write.proofs.put_bytes.Goals as goal

pub returns : goal.returns
returns c = laid_put _ _ _ _ _ refl c.copy_from_slice.ensures.after
