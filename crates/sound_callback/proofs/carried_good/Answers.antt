-- The invariant: `good` is the test of the bytes passed. Assumes nothing.
use mathlib.Core.Path.{refl}
use native.Mathlib.Omega.{arith}
use Rattle.model.specs.Logic.{all}
use Rattle.model.specs.SoundTest.{carried_test}
use Rattle.model.proofs.Loops.{all_next, all_done}
use Rattle.memory.specs.Layout.{state_in}
use Rattle.sound_callback.specs.Parts.{spare_test}
use Rattle.sound_callback.proofs.carried_good.Goals as goal

-- no byte is passed
pub loop-i-init : goal.loop-i-init
unfolding all
loop-i-init c = λ words. refl

-- one byte more
pub loop-i-preserved : goal.loop-i-preserved
loop-i-preserved c = λ words. all_next _ _ (c.spare_good-good.ensures.is words) (c.loop-i.invariant words) refl

-- all three are passed
pub returns : goal.returns
unfolding carried_test spare_test
returns c =
    record {
      is =
          λ words.
          rw (c.used.ensures words, all_done (spare_test (state_in c.args.bytes.now words).carry) 3 c.loop-i.i (omega arith) (omega arith) (c.loop-i.invariant words));
    }
