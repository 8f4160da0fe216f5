-- `sound_rows::every` meets its contract. The invariant: `good` is the test of the numbers passed. Assumes nothing.
use mathlib.Core.Path.{refl}
use native.Mathlib.Omega.{arith}
use Rattle.model.specs.Logic.{all}
use Rattle.model.proofs.Loops.{all_next}
use Rattle.sound_rows.proofs.every.Goals as goal

pub loop-k-init : goal.loop-k-init
unfolding all
loop-k-init g c = λ test h. refl

pub loop-k-preserved : goal.loop-k-preserved
loop-k-preserved g c = λ test h. all_next test c.loop-k.k (h c.loop-k.k _ (omega arith) c.passes-good.ensures) (c.loop-k.invariant test h) refl
