-- `saved_copy::write_word` meets its contract: the four bytes stand at their place, and the rest stays. Assumes nothing.
use mathlib.Core.Path.{refl, ◌∙◌}
use Rattle.saved_form.specs.Words.{word_bytes}
use Rattle.saved_copy.proofs.Parts.{laid_put}
use Rattle.saved_copy.proofs.Copying.{four_bytes}
use Rattle.saved_copy.proofs.write_word.Goals as goal

pub returns : goal.returns
unfolding word_bytes
returns c = laid_put c.args.into.now c.args.at 4 _ _ refl (c.copy_from_slice.ensures.after ∙ c.to_le_bytes.ensures ∙ four_bytes c.args.w)
