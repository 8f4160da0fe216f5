-- The three tests in turn, each by what its function says. Assumes nothing.
use Rattle.model.specs.SoundTest.{none_test}
use Rattle.sound_callback.proofs.Opening.{steady_all}
use Rattle.sound_callback.proofs.none_open.Goals as goal

pub returns : goal.returns
unfolding none_test
returns c = record { is = λ words. rw (c.asked.ensures words, c.others_steady.ensures.is words, c.target.ensures words, steady_all) }
