-- What a memory of a sound bench, written to a buffer, is to saving. Assumes nothing.
use mathlib.Core.Path.{◌≡◌, refl}
use mathlib.Core.Bool.{Bool, true, false}
use mathlib.Core.List.{List}
use Prim.Native.Nat.{ℕ, ◌≤◌, ◌<◌}
use lib.ListN.{length}
use lib.Dec.{leb}
use borrow.Author.Tests.{le-ltb, lt-ltb, leb-true, leb-false}
use Rattle.model.specs.Logic.{when◌then◌else◌}
use Rattle.model.specs.State.{State}
use Rattle.model.specs.SoundTest.{sound_test}
use Rattle.model.specs.Feed.{over}
use Rattle.memory.specs.Layout.{state_in}
use Rattle.saved_form.specs.Form.{FORM, form}
use Rattle.saved_form.specs.Saving.{Saved, save_number, save_of}
use Rattle.std.specs.Prelude.{Result, ⊤}
use Rattle.saved_answer.specs.declared.SaveRefusal.{SaveRefusal}
use Rattle.saved_answer.specs.Answers.{saving_of}
use Rattle.saved_write.specs.Writes.{WriteIs}

abbrev pub told : ℕ → List ℕ → Saved
told n buffer = record { number = n; buffer = buffer }

module _ (s : State) (out : List ℕ) (e : sound_test s ≡ true) where
  save_short : length out < FORM → told 8 out ≡ save_of s out
  unfolding save_of save_number when◌then◌else◌
  save_short l = rw (e, lt-ltb _ _ l)

  save_done : FORM ≤ length out → told 0 (over (form s) out) ≡ save_of s out
  unfolding save_of save_number when◌then◌else◌
  save_done l = rw (e, le-ltb _ _ l)

-- what writing answers is what saving answers of a sound bench
pub saved_as : (bytes words out : List ℕ) {r : Result ⊤ SaveRefusal} {after : List ℕ} → sound_test (state_in bytes words) ≡ true → WriteIs bytes words out r after
    → told (saving_of r) after ≡ save_of (state_in bytes words) out
unfolding when◌then◌else◌
saved_as bytes words out {r} {after} e w = by_room (leb FORM (length out)) refl
  where
    by_room : (b : Bool) → leb FORM (length out) ≡ b → told (saving_of r) after ≡ save_of (state_in bytes words) out
    by_room true f =
        let is = rw f at w.room in
        let same = rw f at w.buffer in
        rw (is, same) (save_done (state_in bytes words) out e (leb-true _ _ f))
    by_room false f =
        let is = rw f at w.room in
        let same = rw f at w.buffer in
        rw (is, same) (save_short (state_in bytes words) out e (leb-false _ _ f))
