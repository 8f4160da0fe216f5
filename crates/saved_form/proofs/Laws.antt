-- The laws of the saved state: a sound bench has exactly one form, and equal forms are equal benches. What a form holds is the memory, which
-- determines the state; so no byte of it is free. Assumes nothing.
use mathlib.Core.Path.{◌≡◌, refl, sym, ◌∙◌, ap}
use mathlib.Core.Bool.{true}
use mathlib.Core.List.{List, ◌∷◌, ◌++◌}
use Prim.Native.Nat.{ℕ, ◌+◌, ◌*◌, ◌≤◌}
use native.Mathlib.Omega.{arith}
use lib.ListN.{length, get_or, take, drop, length-append, length-drop, take-append-drop}
use lib.Seq.{drop-cons, drop-drop, take_at, drop_at, take_all, get_or-drop}
use borrow.Author.Tests.{eqb-true}
use Rattle.model.specs.Logic.{when◌then◌else◌}
use Rattle.model.specs.State.{State}
use Rattle.model.specs.Sound.{Sound}
use Rattle.model.specs.Feed.{over}
use Rattle.model.proofs.Basics.{and_parts}
use Rattle.model.proofs.SoundTest.{sound_shaped}
use Rattle.memory.specs.Layout.{BYTES, WORDS, BYTE, area, Cells, state_in, bytes_of, words_of}
use Rattle.memory.proofs.Inverse.{bytes_of_lem, words_of_lem, bytes_long, words_long, sound_memory}
use Rattle.saved_form.specs.Words.{word_bytes, words_from}
use Rattle.saved_form.specs.Form.{HEADER, FORM, header, form}
use Rattle.saved_form.specs.Saving.{save_of}
use Rattle.saved_form.specs.Restoring.{marked, version_in, Restored, restore_of}
use Rattle.saved_form.specs.Laws.{OneForm, RestoresSound, EqualForms, RefusedEmpty, SavedRestores}
use Rattle.saved_form.proofs.Words.{words_back, bytes_back, bytes_count}
use Rattle.saved_form.proofs.Ranges.{words_low}
use Rattle.saved_form.proofs.Reading.{bytes_in, words_in, bytes_in_long, words_in_long, Headed, head_passes, restore_done, restored_passed, refused_empty}

-- bytes that restore to s
abbrev taken : State → Restored
taken s = record { number = 0; state = s }

-- ---- what the form of a sound bench holds
module _ {s : State} (h : Sound s) where
  pub form_long : length (form s) ≡ FORM
  unfolding form FORM header
  form_long =
      let g = sound_shaped h in
      let x = bytes_long g in
      let y = words_long g in
      let z = bytes_count (words_of s) in
      let l = length-append (bytes_of s) (word_bytes (words_of s)) in
      omega arith

  form_bytes : bytes_in (form s) ≡ bytes_of s
  unfolding form header area
  form_bytes = take_at (bytes_of s) (word_bytes (words_of s)) BYTES (bytes_long (sound_shaped h))

  form_rest : drop (HEADER + BYTES) (form s) ≡ word_bytes (words_of s)
  unfolding form header
  form_rest = sym (drop-drop BYTES HEADER (form s)) ∙ drop_at (bytes_of s) (word_bytes (words_of s)) BYTES (bytes_long (sound_shaped h))

  form_words : words_in (form s) ≡ words_of s
  unfolding area
  form_words =
      let y = words_long (sound_shaped h) in
      let z = bytes_count (words_of s) in
      ap words_from (ap (take (4 * WORDS)) form_rest ∙ take_all (4 * WORDS) (word_bytes (words_of s)) (omega arith)) ∙ words_back (words_of s) (words_low h)

  form_marked : marked (form s) ≡ true
  unfolding marked form header
  form_marked = refl

  form_version : version_in (form s) ≡ 1
  unfolding version_in form header
  form_version = refl

  form_state : state_in (bytes_in (form s)) (words_in (form s)) ≡ s
  form_state = rw (form_bytes, form_words) (sound_memory h)

  pub restores : restore_of (form s) ≡ taken s
  unfolding FORM
  restores =
      let l = form_long in
      let head : Headed (form s) = record { mark = form_marked; version = form_version; long = l } in
      restore_done (form s) head (head_passes (form s) (omega arith) head) (rw form_state h) ∙ ap taken form_state

-- ---- bytes that restore are the form of what they restore to
-- the first five bytes
five : (f : List ℕ) → HEADER ≤ length f → f ≡ get_or f 0 0 ∷ get_or f 1 0 ∷ get_or f 2 0 ∷ get_or f 3 0 ∷ get_or f 4 0 ∷ drop HEADER f
five f l =
    drop-cons f 0 0 (omega arith)
    ∙ ap (◌∷◌ (get_or f 0 0)) (drop-cons f 1 0 (omega arith)
    ∙ ap (◌∷◌ (get_or f 1 0)) (drop-cons f 2 0 (omega arith)
    ∙ ap (◌∷◌ (get_or f 2 0)) (drop-cons f 3 0 (omega arith)
    ∙ ap (◌∷◌ (get_or f 3 0)) (drop-cons f 4 0 (omega arith)))))

by_header : (f : List ℕ) → HEADER ≤ length f → marked f ≡ true → version_in f ≡ 1 → f ≡ header ++ drop HEADER f
unfolding marked version_in header
by_header f l m v =
    let (a, m1) = and_parts _ _ m in
    let (b, c) = and_parts _ _ m1 in
    let d : get_or f 3 0 ≡ 1 = omega arith in
    let e : get_or f 4 0 ≡ 0 = omega arith in
    five f l ∙ rw (eqb-true (get_or f 0 0) 0x54 a, eqb-true (get_or f 1 0) 0x57 b, eqb-true (get_or f 2 0) 0x53 c, d, e)

cells_drop : {most : ℕ} (n : ℕ) (l : List ℕ) → Cells most l → Cells most (drop n l)
cells_drop n l c = record { below = λ i. rw (get_or-drop n l i 0) (c.below (n + i)) }

module _ (f : List ℕ) (cells : Cells BYTE f) (long : length f ≡ FORM) where
  words_form : word_bytes (words_in f) ≡ drop (HEADER + BYTES) f
  unfolding area FORM
  words_form =
      let rest = drop (HEADER + BYTES) f in
      let k : length rest ≡ 4 * WORDS = length-drop (HEADER + BYTES) f ∙ omega arith in
      ap (λ (x : List ℕ). word_bytes (words_from x)) (take_all (4 * WORDS) rest (omega arith)) ∙ bytes_back WORDS rest k (cells_drop (HEADER + BYTES) f cells)

  -- the bytes and the words of the state that is read are those of the form
  read_back : form (state_in (bytes_in f) (words_in f)) ≡ header ++ drop HEADER f
  unfolding form area
  read_back =
      rw (bytes_of_lem (bytes_in f) (words_in f) (bytes_in_long f long), words_of_lem (bytes_in f) (words_in f) (words_in_long f long), words_form)
      (ap (◌++◌ header) (rw (← drop-drop BYTES HEADER f) (take-append-drop BYTES (drop HEADER f))))

some : (f : List ℕ) → length f ≡ FORM → HEADER ≤ length f
unfolding FORM
some f l = omega arith

pub restored_form : (f : List ℕ) → Cells BYTE f → (restore_of f).number ≡ 0 → f ≡ form (restore_of f).state
restored_form f c e =
    let p = restored_passed f e in
    by_header f (some f p.long) p.mark p.version ∙ sym (read_back f c p.long) ∙ sym (ap (λ (r : Restored). form r.state) p.bench)

-- ---- the laws
pub one_form : (s : State) → Sound s → OneForm s
one_form s h =
    record {
      restores = restores h;
      only = λ f c e. restored_form f c (ap (λ (r : Restored). r.number) e) ∙ ap (λ (r : Restored). form r.state) e;
    }

pub restores_sound : RestoresSound
restores_sound f e = let p = restored_passed f e in rw p.bench p.sound

pub equal_forms : EqualForms
equal_forms s t g h = (
  λ e. ap (λ (r : Restored). r.state) (sym (restores g) ∙ ap restore_of e ∙ restores h),
  λ e. ap form e,
)

pub refusals_empty : RefusedEmpty
refusals_empty f e = refused_empty f e

-- what a saving that is not refused writes
pub saved_form : (s : State) (buffer : List ℕ) → (save_of s buffer).number ≡ 0 → (save_of s buffer).buffer ≡ over (form s) buffer
unfolding save_of when◌then◌else◌
saved_form s buffer e = rw e

pub saved_restores : SavedRestores
saved_restores s buffer e h =
    ap (λ (b : List ℕ). restore_of (take FORM b)) (saved_form s buffer e)
    ∙ ap restore_of (take_at (form s) (drop (length (form s)) buffer) FORM (form_long h)) ∙ restores h
