-- What the soundness test of a bench tells. Assumes nothing.
use Rattle.std.specs.Prelude.{◌≡◌, Bool, true}
use Rattle.model.specs.State.{State}
use Rattle.model.specs.Sound.{Sound}
use Rattle.model.specs.SoundTest.{sound_test}

-- the answer of the test; where it passes, the facts hold
pub record Verdict (s : State) (passes : Bool) : Type 0 where
  pub test : passes ≡ sound_test s
  pub sound : passes ≡ true → Sound s
