-- What a saving into a buffer of a form's length gives: a sound bench's form and nothing else, or the refusal of one that is not sound. Assumes
-- nothing.
use mathlib.Core.Path.{◌≡◌, refl, sym, ap, ◌∙◌}
use mathlib.Core.Bool.{Bool, true, false}
use mathlib.Core.List.{List, ◌++◌, append-nil}
use Prim.Native.Nat.{ℕ}
use native.Mathlib.Omega.{arith}
use lib.ListN.{length, drop}
use lib.Seq.{drop-length}
use lib.Dec.{ltb}
use borrow.Author.Tests.{le-ltb}
use Rattle.model.specs.Logic.{when◌then◌else◌}
use Rattle.model.specs.State.{State}
use Rattle.model.specs.Sound.{Sound}
use Rattle.model.specs.SoundTest.{sound_test}
use Rattle.model.proofs.SoundTest.{sound_iff}
use Rattle.memory.specs.Layout.{BYTES, WORDS}
use Rattle.memory.proofs.Inverse.{shaped_in}
use Rattle.keeper_bench.specs.declared.Bench.{Bench}
use Rattle.keeper_bench.specs.Translate.{state_of}
use Rattle.std.specs.Prelude.{Result, ⊤, Err}
use Rattle.saved_answer.specs.declared.SaveRefusal.{SaveRefusal}
use Rattle.saved_answer.specs.Answers.{saving_of}
use Rattle.saved_answer.proofs.Numbers.{saving_refused}
use Rattle.saved_form.specs.Form.{FORM, form}
use Rattle.saved_form.specs.Saving.{Saved, save_number, save_of}
use Rattle.saved_form.proofs.Laws.{form_long, saved_form}
use Rattle.saved.specs.Translate.{saved_of}

-- ---- the number, by the soundness test
unsound_number : (s : State) (buffer : List ℕ) → sound_test s ≡ false → save_number s buffer ≡ 21
unfolding save_number when◌then◌else◌
unsound_number s buffer e = rw e

sound_number : (s : State) (buffer : List ℕ) → length buffer ≡ FORM → sound_test s ≡ true → save_number s buffer ≡ 0
unfolding save_number when◌then◌else◌
sound_number s buffer l e = let m : ltb (length buffer) FORM ≡ false = le-ltb (length buffer) FORM (omega arith) in rw (e, m)

by_test : (b : Bool) (s : State) (buffer : List ℕ) → sound_test s ≡ b → save_number s buffer ≡ 0 → sound_test s ≡ true
by_test true s buffer e z = e
by_test false s buffer e z = let n = unsound_number s buffer e in absurd (omega arith)

-- ---- a refusal has a number
pub refusal_numbered : {r : Result ⊤ SaveRefusal} {e : SaveRefusal} → r ≡ Err e → saving_of r ≡ 0 → ⊥
refusal_numbered {r} {e} h z = saving_refused e (sym (ap saving_of h) ∙ z)

-- ---- a saving
module _ (b : Bench) (buffer : List ℕ) (long : length buffer ≡ FORM) (r : Result ⊤ SaveRefusal) {after : List ℕ} (met : saved_of r after ≡ save_of (state_of b) buffer) where
  number : saving_of r ≡ save_number (state_of b) buffer
  unfolding save_of
  number = ap (λ (w : Saved). w.number) met

  pub sound_saved : sound_test (state_of b) ≡ true → saving_of r ≡ 0
  sound_saved t = number ∙ sound_number (state_of b) buffer long t

  pub unsound_refused : sound_test (state_of b) ≡ false → saving_of r ≡ 21
  unsound_refused t = number ∙ unsound_number (state_of b) buffer t

  -- the buffer holds the form alone
  pub form_saved : length b.bytes ≡ BYTES → length b.words ≡ WORDS → saving_of r ≡ 0 → after ≡ form (state_of b)
  form_saved x y z =
      let n : save_number (state_of b) buffer ≡ 0 = sym number ∙ z in
      let h : Sound (state_of b) = (sound_iff (state_of b) (shaped_in b.bytes b.words x y)).0 (by_test _ (state_of b) buffer refl n) in
      let l : drop (length (form (state_of b))) buffer ≡ drop (length buffer) buffer = ap (λ (k : ℕ). drop k buffer) (form_long h ∙ sym long) in
      ap (λ (w : Saved). w.buffer) met ∙ saved_form (state_of b) buffer (ap (λ (w : Saved). w.number) (sym met) ∙ z)
      ∙ ap (λ (rest : List ℕ). form (state_of b) ++ rest) (l ∙ drop-length buffer) ∙ append-nil (form (state_of b))
