-- `saved::taken` meets its contract: what was read is refused with its number, or judged by the soundness test. Assumes nothing.
use mathlib.Core.Path.{◌∙◌}
use Rattle.std.proofs.lemmas.Result.{err_from_is_err_and}
use Rattle.model.proofs.Chains.{passed, failed}
use Rattle.saved_read.proofs.Judging.{restore_refused, restore_read}
use Rattle.saved.proofs.Answers.{judged_sound, judged_unsound}
use Rattle.saved.proofs.taken.Goals as goal

-- refused by header or length
pub returns-in_err-bytes : goal.returns-in_err-bytes
returns-in_err-bytes c =
    let p = err_from_is_err_and c.from_residual.result c.from_residual.ensures.1 in
    rw (p.1, p.2) (restore_refused _ _ (rw c.in_err-bytes.was at c.read.ensures))

-- not sound
pub returns-then-not-sound : goal.returns-then-not-sound
returns-then-not-sound c =
    judged_unsound _ (failed c.sound.ensures.test c.if-not-sound.true-raw) ∙ restore_read _ _ (rw c.in_ok-bytes.was at c.read.ensures)

-- sound
pub returns : goal.returns
returns c =
    judged_sound _ (passed c.sound.ensures.test c.if-not-sound.false-raw) ∙ restore_read _ _ (rw c.in_ok-bytes.was at c.read.ensures)
