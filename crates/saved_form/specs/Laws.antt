-- The laws of the saved state. Assumes nothing.
use Rattle.std.specs.Prelude.{◌≡◌, List, ◌↔◌, ℕ, take}
use Rattle.model.specs.State.{State, empty_state}
use Rattle.model.specs.Sound.{Sound}
use Rattle.memory.specs.Layout.{BYTE, Cells}
use Rattle.saved_form.specs.Form.{FORM, form}
use Rattle.saved_form.specs.Saving.{save_of}
use Rattle.saved_form.specs.Restoring.{restore_of}

-- "Each sound bench has exactly one saved form": its form restores to it, and bytes that restore to it are its form
pub record OneForm (s : State) : Type 0 where
  pub restores : restore_of (form s) ≡ record { number = 0; state = s }
  pub only : (f : List ℕ) → Cells BYTE f → restore_of f ≡ record { number = 0; state = s } → f ≡ form s

-- whatever restores is a sound bench
abbrev pub RestoresSound : Type 0
RestoresSound = (f : List ℕ) → (restore_of f).number ≡ 0 → Sound (restore_of f).state

-- "two sound benches are equal exactly when their saved bytes are"
abbrev pub EqualForms : Type 0
EqualForms = (s t : State) → Sound s → Sound t → (form s ≡ form t) ↔ (s ≡ t)

-- a refusal leaves the empty bench
abbrev pub RefusedEmpty : Type 0
RefusedEmpty = (f : List ℕ) → ((restore_of f).number ≡ 0 → ⊥) → (restore_of f).state ≡ empty_state

-- what is saved, of any bench and into any buffer, restores to the bench
abbrev pub SavedRestores : Type 0
SavedRestores = (s : State) (buffer : List ℕ) → (save_of s buffer).number ≡ 0 → Sound s → restore_of (take FORM (save_of s buffer).buffer) ≡ record { number = 0; state = s }
