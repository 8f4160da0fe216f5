-- How keeping a bench ends. What a file holds no contract of the C library says. Assumes nothing.
use Rattle.std.specs.Prelude.{◌≡◌, true, false, ◌⊎◌, ℕ, Option, None}
use Rattle.model.specs.State.{State}
use Rattle.model.specs.SoundTest.{sound_test}
use Rattle.program_end.specs.declared.End.{End}
use Rattle.program_end.specs.declared.End.TheVariants.{Done, Failed, Stopped}

-- nothing is to be done where no argument names a file; a sound bench is saved, or a file fails; one that is not sound is refused
pub record Kept (save : Option ℕ) (s : State) (end : End) : Type 0 where
  pub unasked : save ≡ None → end ≡ Done
  pub sound : (save ≡ None → ⊥) → sound_test s ≡ true → (end ≡ Done) ⊎ (end ≡ Failed)
  pub unsound : (save ≡ None → ⊥) → sound_test s ≡ false → end ≡ Stopped
