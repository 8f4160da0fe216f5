-- Cells copied one after another to the front of others: one law for bytes and for words. Assumes nothing.
use mathlib.Core.Path.{◌≡◌, refl, sym, ap, ◌∙◌}
use mathlib.Core.List.{List, [], ◌∷◌, ◌++◌, append_assoc}
use Prim.Native.Nat.{ℕ, suc, ◌+◌, ◌*◌, ◌<◌, ◌≤◌, ◌%◌, ◌/◌, min}
use native.Mathlib.Omega.{arith}
use native.Mathlib.Numerals.{add-one}
use lib.ListN.{length, get_or, set, take, drop, length-set, length-take}
use lib.Seq.{take-length, length-take-le, take-suc, drop-cons, take-add, take_at, drop_at, drop-drop, append_snoc, set_at, get_or-take}
use Rattle.model.specs.Feed.{over}
use Rattle.saved_form.specs.Words.{word_bytes, words_from}
use Rattle.saved_form.proofs.Words.{bytes_count, words_count, word_in, word_stands}
use Rattle.saved_copy.specs.Places.{word_at}
use Rattle.saved_form.specs.Restoring.{laid}
use Rattle.saved_copy.proofs.Parts.{laid_long}
use Rattle.std.specs.Int.{w32, to_le_bytes}

-- of the cells of s, so many, the first i stand at the front of d
pub record Copied (count : ℕ) (s d : List ℕ) (i : ℕ) (out : List ℕ) : Type 0 where
  pub all : length s ≡ count
  pub fits : count ≤ length d
  pub few : i ≤ count
  pub long : length out ≡ length d
  pub is : out ≡ take i s ++ drop i d

-- one cell more
stored : (s d : List ℕ) (i : ℕ) → i < length s → i < length d → set (take i s ++ drop i d) i (get_or s i 0) ≡ take (suc i) s ++ drop (suc i) d
stored s d i l m =
    rw (drop-cons d i 0 m, take-suc s i 0 l)
    (set_at (take i s) (get_or d i 0) (drop (suc i) d) (get_or s i 0) i (length-take-le i s (omega arith)) ∙ sym (append_snoc (take i s) (get_or s i 0) (drop (suc i) d)))

pub copied_one : {count i : ℕ} {s d out : List ℕ} (place next v : ℕ) → i < count → Copied count s d i out → place ≡ i → next ≡ i + 1 → v ≡ get_or s i 0
    → Copied count s d next (set out place v)
copied_one {count} {i} {s} {d} {out} place next v l c e f g =
    let h = c.fits in
    let a = c.all in
    record {
      all = a;
      fits = h;
      few = omega arith;
      long = length-set out place v ∙ c.long;
      is = rw (c.is, e, f, g, add-one i) (stored s d i (omega arith) (omega arith));
    }

pub copied_all : {count i : ℕ} {s d out : List ℕ} → Copied count s d i out → count ≤ i → out ≡ over s d
copied_all {count} {i} {s} {d} {out} c h =
    let e : i ≡ length s = (let f = c.few in let a = c.all in omega arith) in
    rw (c.is, e, take-length s)

-- ---- places
pub byte_at : (from : List ℕ) (n i : ℕ) → i < n → get_or from i 0 ≡ get_or (take n from) i 0
byte_at from n i h = sym (get_or-take n from i 0 h)

-- ---- words read
pub no_words : {count : ℕ} (from into : List ℕ) → count ≡ min (length from / 4) (length into) → Copied count (take (length into) (words_from from)) into 0 into
no_words from into e =
    let z = words_count from in
    record { all = length-take (length into) (words_from from) ∙ omega arith; fits = omega arith; few = omega arith; long = refl; is = refl }

pub word_at_lem : (from : List ℕ) (n j : ℕ) → j < n → 4 * j + 3 < length from → word_at from (4 * j) ≡ get_or (take n (words_from from)) j 0
word_at_lem from n j h l =
    let same : 4 * j + 0 ≡ 4 * j = omega arith in
    sym (get_or-take n (words_from from) j 0 h ∙ word_in from j l ∙ rw same)

-- ---- words written
pub none_written : {count : ℕ} (from into : List ℕ) → count ≡ min (length from) (length into / 4)
    → Copied (4 * count) (word_bytes (take (length into / 4) from)) into (4 * 0) into
none_written from into e =
    let z = length-take (length into / 4) from in
    record { all = bytes_count (take (length into / 4) from) ∙ omega arith; fits = omega arith; few = omega arith; long = refl; is = refl }

-- the four bytes of a word
pub four_bytes : (w : ℕ) → to_le_bytes w32 w ≡ word_bytes (w ∷ [])
unfolding word_bytes
four_bytes w =
    let b : w / 65536 % 256 ≡ w / 256 / 256 % 256 = omega arith in
    let c : w / 16777216 % 256 ≡ w / 256 / 256 / 256 % 256 = omega arith in
    rw (b, c)

next : (s : List ℕ) (i j : ℕ) → i < length s → j ≡ i + 1 → drop i s ≡ get_or s i 0 ∷ drop j s
next s i j l e = rw (e, add-one i) (drop-cons s i 0 l)

four_in : (ws : List ℕ) (j : ℕ) → j < length ws → take 4 (drop (4 * j) (word_bytes ws)) ≡ word_bytes (get_or ws j 0 ∷ [])
unfolding word_bytes
four_in ws j l =
    let z = word_stands ws j l in
    let n = bytes_count ws in
    let s = word_bytes ws in
    let k = 4 * j in
    let same : k + 0 ≡ k = omega arith in
    let first = rw same at z.b0 in
    let one = next s k (k + 1) (omega arith) (omega arith) in
    let two = next s (k + 1) (k + 2) (omega arith) (omega arith) in
    let three = next s (k + 2) (k + 3) (omega arith) (omega arith) in
    let four = next s (k + 3) (k + 4) (omega arith) (omega arith) in
    let all : drop k s ≡ word_bytes (get_or ws j 0 ∷ []) ++ drop (k + 4) s = one ∙ rw (two, three, four, first, z.b1, z.b2, z.b3) in
    ap (take 4) all

-- some cells more
copied_part : {count i : ℕ} {s d out : List ℕ} (n : ℕ) (cells : List ℕ) → i + n ≤ count → Copied count s d i out → length cells ≡ n → take n (drop i s) ≡ cells
    → Copied count s d (i + n) (laid out i cells)
unfolding laid
copied_part {count} {i} {s} {d} {out} n cells l c e f =
    let h = c.fits in
    let a = c.all in
    let k : length (take i s) ≡ i = length-take-le i s (omega arith) in
    record {
      all = a;
      fits = h;
      few = l;
      long = laid_long out cells i n e (rw c.long (omega arith)) ∙ c.long;
      is =
          let front = take_at (take i s) (drop i d) i k in
          let rest = drop_at (take i s) (drop i d) i k in
          rw (e, ← drop-drop n i out, c.is, front, rest, drop-drop n i d, take-add i n s, f) (sym (append_assoc (take i s) cells (drop (i + n) d)));
    }

-- one word more
pub copied_word : {count j : ℕ} (ws : List ℕ) {d out : List ℕ} (w : ℕ) → j < count → Copied (4 * count) (word_bytes ws) d (4 * j) out → w ≡ get_or ws j 0
    → Copied (4 * count) (word_bytes ws) d (4 * (j + 1)) (laid out (4 * j) (word_bytes (w ∷ [])))
copied_word {count} {j} ws {d} {out} w l c e =
    let n = bytes_count ws in
    let a = c.all in
    let more : 4 * (j + 1) ≡ 4 * j + 4 = omega arith in
    rw more (copied_part 4 (word_bytes (w ∷ [])) (omega arith) c (bytes_count (w ∷ [])) (rw e (four_in ws j (omega arith))))
