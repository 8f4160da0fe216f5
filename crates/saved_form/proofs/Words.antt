-- Words as bytes and back. Assumes nothing.
use mathlib.Core.Path.{◌≡◌, refl}
use mathlib.Core.List.{List, [], ◌∷◌}
use Prim.Native.Nat.{ℕ, zero, suc, ◌+◌, ◌*◌, ◌<◌, ◌%◌, ◌/◌}
use native.Mathlib.Omega.{arith}
use lib.ListN.{length, get_or}
use Rattle.memory.specs.Layout.{BYTE, WORD, Cells}
use Rattle.saved_form.specs.Words.{word_bytes, word_of, words_from}

-- ---- one word
word_back : (w : ℕ) → w < WORD → word_of (w % 256) (w / 256 % 256) (w / 256 / 256 % 256) (w / 256 / 256 / 256 % 256) ≡ w
word_back w l = omega arith

module _ (a b c d : ℕ) (i : a < BYTE) (j : b < BYTE) (k : c < BYTE) (l : d < BYTE) where
  byte_0 : word_of a b c d % 256 ≡ a
  byte_0 = omega arith

  byte_1 : word_of a b c d / 256 % 256 ≡ b
  byte_1 = omega arith

  byte_2 : word_of a b c d / 256 / 256 % 256 ≡ c
  byte_2 = omega arith

  byte_3 : word_of a b c d / 256 / 256 / 256 % 256 ≡ d
  byte_3 = omega arith

-- ---- all words
head_cell : {most x : ℕ} {l : List ℕ} → Cells most (x ∷ l) → x < most
head_cell c = c.below 0

tail_cells : {most x : ℕ} {l : List ℕ} → Cells most (x ∷ l) → Cells most l
tail_cells c = record { below = λ i. c.below (suc i) }

pub words_back : (ws : List ℕ) → Cells WORD ws → words_from (word_bytes ws) ≡ ws
unfolding word_bytes words_from
words_back [] c = refl
words_back (w ∷ ws) c = rw (word_back w (head_cell c), words_back ws (tail_cells c))

pub bytes_back : (n : ℕ) (l : List ℕ) → length l ≡ 4 * n → Cells BYTE l → word_bytes (words_from l) ≡ l
unfolding word_bytes words_from
bytes_back n [] e h = refl
bytes_back n (a ∷ []) e h = absurd (omega arith)
bytes_back n (a ∷ b ∷ []) e h = absurd (omega arith)
bytes_back n (a ∷ b ∷ c ∷ []) e h = absurd (omega arith)
bytes_back zero (a ∷ b ∷ c ∷ d ∷ rest) e h = absurd (omega arith)
bytes_back (suc n) (a ∷ b ∷ c ∷ d ∷ rest) e h =
    let p = head_cell h in
    let h1 = tail_cells h in
    let q = head_cell h1 in
    let h2 = tail_cells h1 in
    let r = head_cell h2 in
    let h3 = tail_cells h2 in
    let s = head_cell h3 in
    rw (byte_0 a b c d p q r s, byte_1 a b c d p q r s, byte_2 a b c d p q r s, byte_3 a b c d p q r s, bytes_back n rest (omega arith) (tail_cells h3))

-- ---- how many there are
pub bytes_count : (ws : List ℕ) → length (word_bytes ws) ≡ 4 * length ws
unfolding word_bytes
bytes_count [] = refl
bytes_count (w ∷ ws) = let z = bytes_count ws in omega arith

pub words_count : (l : List ℕ) → length (words_from l) ≡ length l / 4
unfolding words_from
words_count [] = omega arith
words_count (a ∷ []) = omega arith
words_count (a ∷ b ∷ []) = omega arith
words_count (a ∷ b ∷ c ∷ []) = omega arith
words_count (a ∷ b ∷ c ∷ d ∷ rest) = let z = words_count rest in omega arith

-- ---- where word j stands
step_4 : (j k : ℕ) → 4 * suc j + k ≡ suc (suc (suc (suc (4 * j + k))))
step_4 j k = omega arith

pub word_in : (l : List ℕ) (j : ℕ) → 4 * j + 3 < length l
    → get_or (words_from l) j 0 ≡ word_of (get_or l (4 * j + 0) 0) (get_or l (4 * j + 1) 0) (get_or l (4 * j + 2) 0) (get_or l (4 * j + 3) 0)
unfolding words_from
word_in [] j h = absurd (omega arith)
word_in (a ∷ []) j h = absurd (omega arith)
word_in (a ∷ b ∷ []) j h = absurd (omega arith)
word_in (a ∷ b ∷ c ∷ []) j h = absurd (omega arith)
word_in (a ∷ b ∷ c ∷ d ∷ rest) zero h = refl
word_in (a ∷ b ∷ c ∷ d ∷ rest) (suc j) h = rw (step_4 j 0, step_4 j 1, step_4 j 2, step_4 j 3) (word_in rest j (omega arith))

-- the four bytes of w stand at a place
pub record Stands (l : List ℕ) (at w : ℕ) : Type 0 where
  pub b0 : get_or l (at + 0) 0 ≡ w % 256
  pub b1 : get_or l (at + 1) 0 ≡ w / 256 % 256
  pub b2 : get_or l (at + 2) 0 ≡ w / 256 / 256 % 256
  pub b3 : get_or l (at + 3) 0 ≡ w / 256 / 256 / 256 % 256

pub word_stands : (ws : List ℕ) (j : ℕ) → j < length ws → Stands (word_bytes ws) (4 * j) (get_or ws j 0)
unfolding word_bytes
word_stands [] j h = absurd (omega arith)
word_stands (w ∷ ws) zero h = record { b0 = refl; b1 = refl; b2 = refl; b3 = refl }
word_stands (w ∷ ws) (suc j) h =
    let z = word_stands ws j (omega arith) in
    record { b0 = rw (step_4 j 0) z.b0; b1 = rw (step_4 j 1) z.b1; b2 = rw (step_4 j 2) z.b2; b3 = rw (step_4 j 3) z.b3 }
