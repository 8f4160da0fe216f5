-- The invariant: `good` is the test of the devices passed. Assumes nothing.
use mathlib.Core.Path.{refl}
use native.Mathlib.Omega.{arith}
use Rattle.model.specs.Logic.{all}
use Rattle.model.proofs.Loops.{all_next, all_done}
use Rattle.sound_callback.specs.Parts.{steady_but}
use Rattle.sound_callback.proofs.others_steady.Goals as goal

-- no device is passed
pub loop-q-init : goal.loop-q-init
unfolding all
loop-q-init c = λ words. refl

-- one device more
pub loop-q-preserved : goal.loop-q-preserved
loop-q-preserved c = λ words. all_next _ _ refl (c.loop-q.invariant words) (rw (c.eq.ensures, c.steady.ensures.is words))

-- all n are passed
pub returns : goal.returns
unfolding steady_but
returns c = record { is = λ words. let e = c.devices-n.ensures words in all_done _ _ _ (omega arith) (omega arith) (c.loop-q.invariant words) }
