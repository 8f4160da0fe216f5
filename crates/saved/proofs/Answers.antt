-- What saving and restoring answer by the soundness test. Assumes nothing.
use mathlib.Core.Path.{◌≡◌}
use mathlib.Core.Bool.{true, false}
use mathlib.Core.List.{List}
use Prim.Native.Nat.{ℕ}
use Rattle.model.specs.Logic.{when◌then◌else◌}
use Rattle.model.specs.State.{State}
use Rattle.model.specs.SoundTest.{sound_test}
use Rattle.saved_form.specs.Saving.{Saved, save_number, save_of}
use Rattle.saved_form.specs.Restoring.{Restored, refusal, judged_of}

pub save_unsound : (s : State) (out : List ℕ) → sound_test s ≡ false → ◌≡◌ {A = Saved} (record { number = 21; buffer = out }) (save_of s out)
unfolding save_of save_number when◌then◌else◌
save_unsound s out e = rw e

pub judged_sound : (s : State) → sound_test s ≡ true → ◌≡◌ {A = Restored} (record { number = 0; state = s }) (judged_of s)
unfolding judged_of when◌then◌else◌
judged_sound s e = rw e

pub judged_unsound : (s : State) → sound_test s ≡ false → refusal 21 ≡ judged_of s
unfolding judged_of when◌then◌else◌
judged_unsound s e = rw e
