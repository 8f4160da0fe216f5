-- The bench that bytes begin with. Bytes that restore are of the newest version, since there is one; so what restores decides. Assumes nothing.
use mathlib.Core.Path.{◌≡◌, refl, sym, ap, ◌∙◌}
use mathlib.Core.Bool.{true, true≢false}
use mathlib.Core.List.{List, [], ◌∷◌}
use Prim.Native.Nat.{ℕ, zero, suc, ◌<◌, ◌≤◌}
use native.Mathlib.Omega.{arith}
use native.Mathlib.Decide.{ℕ_discrete}
use lib.ListN.{length, get_or, take, length-take}
use lib.Seq.{get_or-take}
use borrow.Author.Tests.{eqb-false}
use Rattle.model.specs.State.{State, empty_state}
use Rattle.model.specs.Sound.{Sound}
use Rattle.model.specs.SoundTest.{sound_test}
use Rattle.model.proofs.Basics.{by_if}
use Rattle.model.proofs.Loading.{empty_unsound}
use Rattle.model.proofs.SoundTest.{sound_tested}
use Rattle.memory.specs.Layout.{Cells}
use Rattle.saved_form.specs.Form.{FORM, form}
use Rattle.saved_form.specs.Restoring.{version_in, Restored, restore_of}
use Rattle.saved_form.proofs.Reading.{restored_passed, refused_empty}
use Rattle.saved_form.proofs.Laws.{restores, restored_form, restores_sound}
use Rattle.c_calls.specs.Bytes.{bench_in}
use Rattle.c_calls.specs.Laws.{Begins}

-- the version stands before the end of a form
version_kept : (bytes : List ℕ) → version_in (take FORM bytes) ≡ version_in bytes
unfolding version_in FORM
version_kept bytes = rw (get_or-take FORM bytes 3 0 (omega arith), get_or-take FORM bytes 4 0 (omega arith))

-- whether or not the version is looked at
pub bench_in_lem : (bytes : List ℕ) → bench_in bytes ≡ (restore_of (take FORM bytes)).state
unfolding bench_in
bench_in_lem bytes =
    by_if (λ (s : State). s ≡ (restore_of (take FORM bytes)).state) _ _ _ (λ e. refl)
    (λ e. sym (refused_empty (take FORM bytes) (λ z. eqb-false _ _ e (sym (version_kept bytes) ∙ (restored_passed (take FORM bytes) z).version))))

-- too few bytes
pub bench_short : (bytes : List ℕ) → length bytes < FORM → bench_in bytes ≡ empty_state
bench_short bytes l =
    let f = take FORM bytes in
    let e = length-take FORM bytes in
    bench_in_lem bytes ∙ refused_empty f (λ z. let p = (restored_passed f z).long in absurd (omega arith))

-- the form of a sound bench
pub begins : (bytes : List ℕ) {s : State} → Sound s → take FORM bytes ≡ form s → bench_in bytes ≡ s
begins bytes h e = bench_in_lem bytes ∙ ap (λ (f : List ℕ). (restore_of f).state) e ∙ ap (λ (r : Restored). r.state) (restores h)

-- and no other bytes
take_low : (n : ℕ) (l : List ℕ) (i : ℕ) → get_or (take n l) i 0 ≤ get_or l i 0
take_low zero l i = omega arith
take_low (suc n) [] i = omega arith
take_low (suc n) (x ∷ xs) zero = omega arith
take_low (suc n) (x ∷ xs) (suc i) = take_low n xs i

cells_take : {most : ℕ} (n : ℕ) (l : List ℕ) → Cells most l → Cells most (take n l)
cells_take n l c = record { below = λ i. let y = take_low n l i in let z = c.below i in omega arith }

-- a sound bench is not the empty one, so nothing was refused
restored : (f : List ℕ) → Sound (restore_of f).state → (restore_of f).number ≡ 0
restored f h =
    elim (ℕ_discrete (restore_of f).number 0) [
      | yes e ↦ e
      | no n ↦ absurd (true≢false (sym (sound_tested h) ∙ ap sound_test (refused_empty f n) ∙ empty_unsound))
    ]

-- a bench that passes the soundness test is sound, whatever the bytes are
pub bench_sound : (bytes : List ℕ) → sound_test (bench_in bytes) ≡ true → Sound (bench_in bytes)
bench_sound bytes e =
    let f = take FORM bytes in
    let z = bench_in_lem bytes in
    elim (ℕ_discrete (restore_of f).number 0) [
      | yes y ↦ rw z (restores_sound f y)
      | no n ↦ absurd (true≢false (sym e ∙ ap sound_test (z ∙ refused_empty f n) ∙ empty_unsound))
    ]

pub begins_only : Begins
begins_only bytes c s h = (
  λ e.
      let f = take FORM bytes in
      let z : (restore_of f).state ≡ s = sym (bench_in_lem bytes) ∙ e in
      restored_form f (cells_take FORM bytes c) (restored f (rw z h)) ∙ ap form z,
  λ e. begins bytes h e,
)
