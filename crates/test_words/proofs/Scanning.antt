-- Scans of a line, and the words that they find. Assumes nothing.
use mathlib.Core.Path.{◌≡◌, sym, ◌∙◌}
use mathlib.Core.Bool.{Bool, true, false}
use mathlib.Core.List.{List}
use Prim.Native.Nat.{ℕ, suc, ◌+◌, ◌-◌, ◌≤◌, ◌<◌}
use native.Mathlib.Omega.{arith}
use native.Mathlib.Numerals.{add-one}
use lib.ListN.{length, get_or, take, drop, drop_of_length-le}
use lib.Seq.{drop-cons}
use Rattle.test_words.specs.Words.{pick, stops, before, Scanned, to_gap, past_gap, start_of, word_in, Word}

-- ---- a scan at place i
module _ (byte : ℕ) (same : Bool) (s : List ℕ) (i : ℕ) where
  pub scan_here : i < length s → stops byte same (get_or s i 0) ≡ true → before byte same (drop i s) ≡ 0
  unfolding before pick
  scan_here more e = rw (drop-cons s i 0 more, e)

  pub scan_on : i < length s → stops byte same (get_or s i 0) ≡ false → before byte same (drop i s) ≡ suc (before byte same (drop (suc i) s))
  unfolding before pick
  scan_on more e = rw (drop-cons s i 0 more, e)

  pub scan_end : length s ≤ i → before byte same (drop i s) ≡ 0
  unfolding before
  scan_end h = rw (drop_of_length-le s h)

-- ---- a word is a scan over the gap before it, and one up to the next gap
module _ (c : ℕ) {s : List ℕ} where
  pub word_first : {a e : ℕ} → Scanned c false s 0 a → Scanned c true s a e → Word c s 0 a e
  unfolding start_of to_gap past_gap
  word_first over up =
      let inside = over.high (omega arith) in
      record { starts = over.is; ends = rw (← over.is) up.is; low = up.low; high = up.high inside }

  pub word_next : {k a e a' e' : ℕ} → Word c s k a e → Scanned c false s e a' → Scanned c true s a' e' → Word c s (k + 1) a' e'
  unfolding start_of to_gap past_gap
  word_next {k} {a} {e} {a'} w over up =
      let next : a' ≡ start_of c s (k + 1) = rw (add-one k, ← w.ends) over.is in
      let inside = over.high w.high in
      record { starts = next; ends = rw (← next) up.is; low = up.low; high = up.high inside }

  pub word_text : {k a e : ℕ} → Word c s k a e → take (e - a) (drop a s) ≡ word_in c s k
  unfolding word_in
  word_text w = rw (w.starts, w.ends)

never : ◌≡◌ {A = Bool} false true → ⊥
never z = let n : ◌≡◌ {A = ℕ} 0 1 = cc in omega arith

-- what would make a test true does not hold where the test is false
pub denied : {A : Type 0} {r : Bool} → (A → r ≡ true) → r ≡ false → A → ⊥
denied {A} {r} f e a = let z = sym e ∙ f a in never z
