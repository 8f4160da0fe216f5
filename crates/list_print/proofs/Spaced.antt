-- Words with a space before each are the words of that text. Assumes nothing.
use mathlib.Core.Path.{◌≡◌, refl, sym, ap, ◌∙◌}
use mathlib.Core.Bool.{Bool, true}
use mathlib.Core.List.{List, [], ◌∷◌, ◌++◌, append-nil}
use Prim.Native.Nat.{ℕ, zero, suc, ◌<◌}
use native.Mathlib.Omega.{arith}
use lib.Dec.{ltb}
use lib.ListN.{length, get_or}
use borrow.Author.Tests.{ltb-true, not-true}
use Rattle.model.specs.Logic.{◌and◌}
use Rattle.model.proofs.Logic.{and_iff}
use Rattle.std.specs.List.{prefix_len}
use Rattle.std.proofs.Common.{one-add}
use Rattle.list_words.specs.Words.{is_code, is_blank, is_letter, before, from, word_at, word_in}

-- ---- a text each byte of which passes a test, before another
unfoldable pub uncut : (ℕ → Bool) → List ℕ → Bool
uncut p [] = true
uncut p (b ∷ w) = p b and uncut p w

passes : (p : ℕ → Bool) (b : ℕ) (w : List ℕ) → uncut p (b ∷ w) ≡ true → (p b ≡ true) × (uncut p w ≡ true)
unfolding uncut
passes p b w e = (and_iff (p b) (uncut p w)).0 e

-- the bytes in front that pass
front_cons : (p : ℕ → Bool) (b : ℕ) (t : List ℕ) → p b ≡ true → (before p (b ∷ t) ≡ b ∷ before p t) × (from p (b ∷ t) ≡ from p t)
front_cons p b t e = (rw (e, one-add (prefix_len p t)), rw (e, one-add (prefix_len p t)))

before_uncut : (p : ℕ → Bool) (w t : List ℕ) → uncut p w ≡ true → before p (w ++ t) ≡ w ++ before p t
before_uncut p [] t e = refl
before_uncut p (b ∷ w) t e =
    let g = passes p b w e in
    (front_cons p b (w ++ t) g.0).0 ∙ ap (λ (l : List ℕ). b ∷ l) (before_uncut p w t g.1)

from_uncut : (p : ℕ → Bool) (w t : List ℕ) → uncut p w ≡ true → from p (w ++ t) ≡ from p t
from_uncut p [] t e = refl
from_uncut p (b ∷ w) t e =
    let g = passes p b w e in
    (front_cons p b (w ++ t) g.0).1 ∙ from_uncut p w t g.1

-- ---- what can be a word: some bytes, no blank and no comment among them
unfoldable pub solid : List ℕ → Bool
solid w = ltb 0 (length w) and uncut is_code w and uncut is_letter w

record Solid (w : List ℕ) : Type 0 where
  some : 0 < length w
  code : uncut is_code w ≡ true
  whole : uncut is_letter w ≡ true

solid_parts : (w : List ℕ) → solid w ≡ true → Solid w
unfolding solid
solid_parts w e =
    let g = (and_iff (ltb 0 (length w)) (uncut is_code w and uncut is_letter w)).0 e in
    let h = (and_iff (uncut is_code w) (uncut is_letter w)).0 g.1 in record { some = ltb-true 0 (length w) g.0; code = h.0; whole = h.1 }

starts : (w t : List ℕ) → Solid w → from is_blank (w ++ t) ≡ w ++ t
starts [] t s = let h = s.some in absurd (omega arith)
starts (b ∷ w) t s = rw (not-true (is_blank b) (passes is_letter b w s.whole).0)

-- ---- words with a space before each
unfoldable pub spaced : List (List ℕ) → List ℕ
spaced [] = []
spaced (w ∷ ws) = 32 ∷ w ++ spaced ws

unfoldable pub all_solid : List (List ℕ) → Bool
all_solid [] = true
all_solid (w ∷ ws) = solid w and all_solid ws

module _ (w : List ℕ) (ws : List (List ℕ)) (e : all_solid (w ∷ ws) ≡ true) where
  front : Solid w
  unfolding all_solid
  front = solid_parts w ((and_iff (solid w) (all_solid ws)).0 e).0

  others : all_solid ws ≡ true
  unfolding all_solid
  others = ((and_iff (solid w) (all_solid ws)).0 e).1

-- a space is passed over
pub space_first : (t : List ℕ) (k : ℕ) → word_at (32 ∷ t) k ≡ word_at t k
unfolding word_at is_blank
space_first t zero = rw (front_cons is_blank 32 t refl).1
space_first t (suc k) = rw (front_cons is_blank 32 t refl).1

ends : (ws : List (List ℕ)) → before is_letter (spaced ws) ≡ []
unfolding spaced is_blank
ends [] = refl
ends (w ∷ ws) = refl

goes_on : (ws : List (List ℕ)) → from is_letter (spaced ws) ≡ spaced ws
unfolding spaced is_blank
goes_on [] = refl
goes_on (w ∷ ws) = refl

no_word : (k : ℕ) → word_at [] k ≡ []
unfolding word_at
no_word zero = refl
no_word (suc k) = no_word k

words_at : (ws : List (List ℕ)) (k : ℕ) → all_solid ws ≡ true → word_at (spaced ws) k ≡ get_or ws k []
unfolding spaced word_at
words_at [] k e = no_word k
words_at (w ∷ ws) zero e =
    let s = front w ws e in
    space_first (w ++ spaced ws) 0
    ∙ rw (starts w (spaced ws) s, before_uncut is_letter w (spaced ws) s.whole, ends ws) (append-nil w)
words_at (w ∷ ws) (suc k) e =
    let s = front w ws e in
    space_first (w ++ spaced ws) (suc k)
    ∙ rw (starts w (spaced ws) s, from_uncut is_letter w (spaced ws) s.whole, goes_on ws) (words_at ws k (others w ws e))

no_comment : (ws : List (List ℕ)) → all_solid ws ≡ true → before is_code (spaced ws) ≡ spaced ws
unfolding spaced
no_comment [] e = refl
no_comment (w ∷ ws) e =
    (front_cons is_code 32 (w ++ spaced ws) refl).0
    ∙ ap (λ (l : List ℕ). 32 ∷ l) (before_uncut is_code w (spaced ws) (front w ws e).code ∙ ap (λ (l : List ℕ). w ++ l) (no_comment ws (others w ws e)))

-- word k of a line that starts with a word
pub words_back : (w : List ℕ) (ws : List (List ℕ)) (k : ℕ) → all_solid (w ∷ ws) ≡ true → word_in (w ++ spaced ws) k ≡ get_or (w ∷ ws) k []
unfolding word_in spaced
words_back w ws k e =
    rw (before_uncut is_code w (spaced ws) (front w ws e).code, no_comment ws (others w ws e))
    (sym (space_first (w ++ spaced ws) k) ∙ words_at (w ∷ ws) k e)
