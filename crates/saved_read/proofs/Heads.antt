-- What header and length are answered, test by test. Assumes nothing.
use mathlib.Core.Path.{◌≡◌, sym, ◌∙◌, ap}
use mathlib.Core.Bool.{true, false}
use mathlib.Core.List.{List, [], ◌∷◌}
use Prim.Native.Nat.{ℕ, ◌<◌, ◌≤◌}
use native.Mathlib.Omega.{arith}
use native.Mathlib.Decide.{ℕ_discrete}
use lib.Dec.{eqb}
use Rattle.std.specs.Cmp.Lexicographic.{pointwise}
use Rattle.std.proofs.Math.Bool.{and-true}
use lib.ListN.{take, length, replicate, length-replicate}
use borrow.Author.Tests.{lt-ltb, le-ltb, ne_eqb}
use Rattle.model.specs.Logic.{when◌then◌else◌}
use Rattle.memory.specs.Layout.{BYTES, WORDS}
use Rattle.std.specs.Prelude.{Ok, Err}
use Rattle.saved_answer.specs.declared.RestoreRefusal.{RestoreRefusal}
use Rattle.saved_answer.specs.Answers.{restore_refusal}
use Rattle.saved_form.specs.Form.{HEADER, FORM}
use Rattle.saved_form.specs.Restoring.{version1, spans, known, width, bytes_by, words_by, marked, version_in, head_answer}
use Rattle.saved_form.proofs.Reading.{Headed, spans_1_length, head_passes}
use Rattle.saved_read.specs.declared.Cells.{Cells}
use Rattle.saved_read.specs.Reads.{AllFit, Filled, CellsOf, ReadIs}

-- ---- the tests
module _ (f : List ℕ) where
  pub head_short : length f < HEADER → head_answer f ≡ 1
  unfolding head_answer when◌then◌else◌
  head_short l = rw (lt-ltb _ _ l)

  module _ (l : HEADER ≤ length f) where
    pub head_mark : marked f ≡ false → head_answer f ≡ 2
    unfolding head_answer when◌then◌else◌
    head_mark e = rw (le-ltb _ _ l, e)

    pub head_version : marked f ≡ true → (version_in f ≡ 1 → ⊥) → head_answer f ≡ 3
    unfolding head_answer known when◌then◌else◌
    head_version e g = rw (le-ltb _ _ l, e, ne_eqb _ _ g)

    pub head_length : marked f ≡ true → version_in f ≡ 1 → (length f ≡ FORM → ⊥) → head_answer f ≡ 5
    unfolding head_answer known when◌then◌else◌
    head_length e g h = rw (le-ltb _ _ l, e, g, spans_1_length, ne_eqb _ _ h)

-- the mark, by the first three bytes
alike : (a b : ℕ) → eqb a b ≡ eqb b a
alike a b =
    elim (ℕ_discrete a b) [
      | yes e ↦ rw e
      | no n ↦ ne_eqb a b n ∙ sym (ne_eqb b a (λ e. n (sym e)))
    ]

pub marked_by : (f : List ℕ) → HEADER ≤ length f → pointwise eqb (0x54 ∷ 0x57 ∷ 0x53 ∷ []) (take 3 f) ≡ marked f
unfolding marked
marked_by [] l = absurd (omega arith)
marked_by (a ∷ []) l = absurd (omega arith)
marked_by (a ∷ b ∷ []) l = absurd (omega arith)
marked_by (a ∷ b ∷ c ∷ rest) l = rw (alike 0x54 a, alike 0x57 b, alike 0x53 c, and-true (eqb c 0x53))

-- ---- what is read
pub read_refused : {f : List ℕ} {n : ℕ} (e : RestoreRefusal) → head_answer f ≡ n → restore_refusal e ≡ n → ReadIs f (Err e)
read_refused r e h = record { number = h ∙ sym e; cells = tt }

pub read_taken : {f : List ℕ} {c : Cells} → HEADER ≤ length f → Headed f → CellsOf f c → ReadIs f (Ok c)
unfolding spans when◌then◌else◌
read_taken {f} l h c =
    record { number = sym (head_passes f l h); cells = record { in_bytes = rw h.version c.in_bytes; in_words = rw h.version c.in_words } }

-- the spans of version 1 fit a form of its length and the memory
pub version1_fits : (f bytes words : List ℕ) → length f ≡ FORM → length bytes ≡ BYTES → length words ≡ WORDS → AllFit f version1 bytes words
unfolding AllFit width when◌then◌else◌ FORM
version1_fits f bytes words l b w = (record { within = omega arith; room = omega arith }, (record { within = omega arith; room = omega arith }, tt))

pub zeros_long : {n : ℕ} {l : List ℕ} → l ≡ replicate n 0 → length l ≡ n
zeros_long {n} e = ap length e ∙ length-replicate {A = ℕ} n 0

-- laid over zeros, the spans give the cells of the form
pub cells_filled : {f bytes₀ words₀ bytes words : List ℕ} → bytes₀ ≡ replicate BYTES 0 → words₀ ≡ replicate WORDS 0 → Filled f version1 bytes₀ words₀ bytes words
    → CellsOf f (record { bytes = bytes; words = words })
cells_filled {f} b w h = record { in_bytes = h.in_bytes ∙ ap (bytes_by f version1) b; in_words = h.in_words ∙ ap (words_by f version1) w }
