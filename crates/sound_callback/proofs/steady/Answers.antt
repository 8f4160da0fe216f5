-- The two tests of the status read. Assumes nothing.
use Rattle.model.specs.SoundTest.{steady_test}
use Rattle.sound_callback.proofs.steady.Goals as goal

pub returns : goal.returns
unfolding steady_test
returns c = record { is = λ words. rw (c.status-v.ensures words) }
