-- `saved::save` meets its contract: the soundness test, then what was written. Assumes nothing.
use Rattle.model.proofs.Chains.{passed, failed}
use Rattle.saved_write.proofs.Saving.{saved_as}
use Rattle.saved.proofs.Answers.{save_unsound}
use Rattle.saved.proofs.save.Goals as goal

-- not sound
pub returns-then-not-sound : goal.returns-then-not-sound
returns-then-not-sound c = save_unsound _ _ (failed c.sound.ensures.test c.if-not-sound.true-raw)

-- written, or without room
pub returns : goal.returns
returns c = saved_as _ _ _ (passed c.sound.ensures.test c.if-not-sound.false-raw) c.write.ensures
