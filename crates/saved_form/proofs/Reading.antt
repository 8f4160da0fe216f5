-- What restoring reads of a form of version 1, and what it answers, test by test. Assumes nothing.
use mathlib.Core.Path.{◌≡◌, refl, sym, ◌∙◌, ap}
use mathlib.Core.Bool.{true, not}
use mathlib.Core.List.{List, append-nil}
use Prim.Native.Nat.{ℕ, ◌+◌, ◌*◌, ◌≤◌}
use native.Mathlib.Omega.{arith}
use native.Mathlib.Nat.{zero-add}
use native.Mathlib.Decide.{ℕ_discrete}
use lib.ListN.{length, replicate, length-replicate, drop_of_length-le}
use lib.Dec.{eqb}
use borrow.Author.Tests.{le-ltb, eq-eqb, ne_eqb, eqb-true, not-false}
use Rattle.model.specs.Logic.{when◌then◌else◌}
use Rattle.model.specs.State.{empty_state}
use Rattle.model.specs.Sound.{Sound}
use Rattle.model.proofs.Basics.{by_if}
use Rattle.model.proofs.SoundTest.{Shaped, sound_iff, sound_tested}
use Rattle.memory.specs.Layout.{BYTES, WORDS, area, state_in}
use Rattle.memory.proofs.Pages.{area_length}
use Rattle.memory.proofs.Inverse.{shaped_in}
use Rattle.saved_form.specs.Words.{words_from}
use Rattle.saved_form.specs.Form.{HEADER, FORM}
use Rattle.saved_form.specs.Restoring.{spans, known, version1, width, length_by, cells_in, laid, bytes_by, words_by, state_by}
use Rattle.saved_form.specs.Restoring.{marked, version_in, head_answer, Restored, judged_of, restore_of}
use Rattle.saved_form.proofs.Words.{words_count}

-- ---- the two arrays of a form
abbrev pub bytes_in : List ℕ → List ℕ
bytes_in f = area HEADER BYTES f

abbrev pub words_in : List ℕ → List ℕ
words_in f = words_from (area (HEADER + BYTES) (4 * WORDS) f)

module _ (f : List ℕ) (long : length f ≡ FORM) where
  pub bytes_in_long : length (bytes_in f) ≡ BYTES
  unfolding FORM
  bytes_in_long = area_length HEADER BYTES f (omega arith)

  words_area : length (area (HEADER + BYTES) (4 * WORDS) f) ≡ 4 * WORDS
  unfolding FORM
  words_area = area_length (HEADER + BYTES) (4 * WORDS) f (omega arith)

  pub words_in_long : length (words_in f) ≡ WORDS
  words_in_long = let z = words_area in words_count (area (HEADER + BYTES) (4 * WORDS) f) ∙ omega arith

-- cells laid over a whole array
laid_all : (array cells : List ℕ) → length cells ≡ length array → laid array 0 cells ≡ cells
unfolding laid
laid_all array cells e = rw (zero-add, drop_of_length-le array {i = length cells} (omega arith)) (append-nil cells)

-- version 1 has all bytes and all words
pub version1_length : length_by version1 ≡ FORM
unfolding length_by width FORM when◌then◌else◌
version1_length = omega arith

pub version1_bytes : (f : List ℕ) → length f ≡ FORM → bytes_by f version1 (replicate BYTES 0) ≡ bytes_in f
unfolding bytes_by cells_in width when◌then◌else◌
version1_bytes f l = laid_all (replicate BYTES 0) (bytes_in f) (bytes_in_long f l ∙ sym (length-replicate BYTES 0))

pub version1_words : (f : List ℕ) → length f ≡ FORM → words_by f version1 (replicate WORDS 0) ≡ words_in f
unfolding words_by cells_in width when◌then◌else◌
version1_words f l = laid_all (replicate WORDS 0) (words_in f) (words_in_long f l ∙ sym (length-replicate WORDS 0))

pub version1_state : (f : List ℕ) → length f ≡ FORM → state_by f (spans 1) ≡ state_in (bytes_in f) (words_in f)
unfolding state_by spans when◌then◌else◌
version1_state f l = rw (version1_bytes f l, version1_words f l)

pub known_1 : (v : ℕ) → known v ≡ true → v ≡ 1
unfolding known
known_1 v h = eqb-true v 1 h

pub spans_1_length : length_by (spans 1) ≡ FORM
unfolding spans when◌then◌else◌
spans_1_length = version1_length

-- ---- what restores
pub record Passed (f : List ℕ) : Type 0 where
  pub mark : marked f ≡ true
  pub version : version_in f ≡ 1
  pub long : length f ≡ FORM
  pub sound : Sound (state_in (bytes_in f) (words_in f))
  pub bench : restore_of f ≡ record { number = 0; state = state_in (bytes_in f) (words_in f) }

-- header and length of a form that restores
pub record Headed (f : List ℕ) : Type 0 where
  pub mark : marked f ≡ true
  pub version : version_in f ≡ 1
  pub long : length f ≡ FORM

pub headed : (f : List ℕ) → head_answer f ≡ 0 → Headed f
unfolding head_answer
headed f =
    by_if P _ _ _ (λ y h. absurd (omega arith)) (λ short.
    by_if P (not (marked f)) _ _ (λ y h. absurd (omega arith)) (λ mark.
    by_if P (not (known (version_in f))) _ _ (λ y h. absurd (omega arith)) (λ version.
    by_if P (not (eqb (length f) (length_by (spans (version_in f))))) _ _ (λ y h. absurd (omega arith)) (λ long h.
    go (not-false _ mark) (known_1 _ (not-false _ version)) (eqb-true _ _ (not-false _ long))))))
  where
    P : ℕ → Type 0
    P x = x ≡ 0 → Headed f

    go : marked f ≡ true → version_in f ≡ 1 → length f ≡ length_by (spans (version_in f)) → Headed f
    go e v l = record { mark = e; version = v; long = (rw v at l) ∙ spans_1_length }

pub head_passes : (f : List ℕ) → HEADER ≤ length f → Headed f → head_answer f ≡ 0
unfolding head_answer known when◌then◌else◌
head_passes f l h = rw (le-ltb _ _ l, h.mark, h.version, spans_1_length, eq-eqb _ _ h.long)

module _ (f : List ℕ) (h : Headed f) where
  read_shaped : Shaped (state_in (bytes_in f) (words_in f))
  read_shaped = shaped_in (bytes_in f) (words_in f) (bytes_in_long f h.long) (words_in_long f h.long)

  -- restoring by what is read
  restore_read : head_answer f ≡ 0 → restore_of f ≡ judged_of (state_in (bytes_in f) (words_in f))
  unfolding restore_of when◌then◌else◌
  restore_read e = rw (e, h.version, version1_state f h.long)

  pub restore_done : head_answer f ≡ 0 → Sound (state_in (bytes_in f) (words_in f)) → restore_of f ≡ record { number = 0; state = state_in (bytes_in f) (words_in f) }
  unfolding judged_of when◌then◌else◌
  restore_done e s = restore_read e ∙ rw (sound_tested s)

  judged_passed : head_answer f ≡ 0 → (judged_of (state_in (bytes_in f) (words_in f))).number ≡ 0 → Passed f
  unfolding judged_of
  judged_passed e =
      by_if P _ _ _
      (λ t y.
      let s = (sound_iff _ read_shaped).0 t in
      record { mark = h.mark; version = h.version; long = h.long; sound = s; bench = restore_done e s })
      (λ t y. absurd (omega arith))
    where
      P : Restored → Type 0
      P x = x.number ≡ 0 → Passed f

head_refused : (f : List ℕ) → (head_answer f ≡ 0 → ⊥) → (restore_of f).number ≡ head_answer f
unfolding restore_of when◌then◌else◌
head_refused f e = rw (ne_eqb _ _ e)

pub restored_passed : (f : List ℕ) → (restore_of f).number ≡ 0 → Passed f
restored_passed f z =
    elim (ℕ_discrete (head_answer f) 0) [
      | yes e ↦ let h = headed f e in judged_passed f h e (sym (ap (λ (r : Restored). r.number) (restore_read f h e)) ∙ z)
      | no n ↦ absurd (n (sym (head_refused f n) ∙ z))
    ]

-- a refusal leaves the empty bench
pub refused_empty : (f : List ℕ) → ((restore_of f).number ≡ 0 → ⊥) → (restore_of f).state ≡ empty_state
unfolding restore_of judged_of
refused_empty f = by_if P _ _ _ (λ e. by_if P _ _ _ (λ t h. absurd (h refl)) (λ t h. refl)) (λ e h. refl)
  where
    P : Restored → Type 0
    P x = (x.number ≡ 0 → ⊥) → x.state ≡ empty_state
