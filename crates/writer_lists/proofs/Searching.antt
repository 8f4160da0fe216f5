-- The search among the numbers below n, as the library tells of it and as the model does. Assumes nothing.
use mathlib.Core.Path.{◌≡◌, refl, sym}
use mathlib.Core.Bool.{Bool, true, false}
use mathlib.Core.Logic.{◌⊎◌, ⊎_elim}
use Prim.Native.Nat.{ℕ, zero, suc, ◌+◌, ◌<◌, ◌≤◌}
use native.Mathlib.Omega.{arith}
use native.Mathlib.Nat.{eq-or-lt_of_le}
use Rattle.std.specs.Prelude.{Some, None}
use Rattle.std.specs.List.{find, list_any, range_with_len}
use Rattle.model.specs.Logic.{any, first}
use Rattle.model.proofs.Basics.{first_at, first_none, any_find}
use Rattle.model.proofs.Logic.{any_fails}

-- ---- the first that passes, among the n numbers from a on
pub record Found (f : ℕ → Bool) (a n p : ℕ) : Type 0 where
  pub low : a ≤ p
  pub high : p < a + n
  pub passes : f p ≡ true
  pub before : (j : ℕ) → a ≤ j → j < p → f j ≡ false

pub found_from : (f : ℕ → Bool) (a n p : ℕ) → find f (range_with_len a n) ≡ Some p → Found f a n p
found_from f a zero p e = absurd (cc)
found_from f a (suc n) p e = go (found_from f (a + 1) n p) (f a) refl
  where
    go : (find f (range_with_len (a + 1) n) ≡ Some p → Found f (a + 1) n p) → (x : Bool) → f a ≡ x → Found f a (suc n) p
    go again true h = let z : Some a ≡ Some p = rw h at e in let q : a ≡ p = cc in record { low = omega arith; high = omega arith; passes = rw (← q) h; before = λ j l m. absurd (omega arith) }
    go again false h =
        let r = again (rw h at e) in
        record {
          low = omega arith;
          high = omega arith;
          passes = r.passes;
          before = λ j l m. let c : (a ≡ j) ⊎ (a < j) = eq-or-lt_of_le l in ⊎_elim (λ q. rw (← q) h) (λ (b : a < j). r.before j (omega arith) m) c;
        }

pub none_from : (f : ℕ → Bool) (a n : ℕ) → find f (range_with_len a n) ≡ None → (j : ℕ) → a ≤ j → j < a + n → f j ≡ false
none_from f a zero e j l m = absurd (omega arith)
none_from f a (suc n) e j l m = go (λ z b. none_from f (a + 1) n z j b (omega arith)) (f a) refl
  where
    go : (find f (range_with_len (a + 1) n) ≡ None → a + 1 ≤ j → f j ≡ false) → (x : Bool) → f a ≡ x → f j ≡ false
    go again true h = let z : Some a ≡ None = rw h at e in absurd (cc)
    go again false h =
        let c : (a ≡ j) ⊎ (a < j) = eq-or-lt_of_le l in
        ⊎_elim (λ q. rw (← q) h) (λ (b : a < j). again (rw h at e) (omega arith)) c

pub found : (f : ℕ → Bool) (n p : ℕ) → find f (range_with_len 0 n) ≡ Some p → (p < n) × (p ≡ first f n)
found f n p e =
    let r = found_from f 0 n p e in
    (omega arith, sym (first_at f n p (λ j l. r.before j (omega arith) l) (omega arith) r.passes))

pub not_found : (f : ℕ → Bool) (n : ℕ) → find f (range_with_len 0 n) ≡ None → n ≡ first f n
not_found f n e = sym (first_none f n (λ j l. none_from f 0 n e j (omega arith) (omega arith)))

-- ---- whether any passes
one_from : (f : ℕ → Bool) (a n k : ℕ) → a ≤ k → k < a + n → f k ≡ true → list_any f (range_with_len a n) ≡ true
one_from f a zero k l m e = absurd (omega arith)
one_from f a (suc n) k l m e = go (λ b. one_from f (a + 1) n k b (omega arith) e) (f a) refl
  where
    go : (a + 1 ≤ k → list_any f (range_with_len (a + 1) n) ≡ true) → (x : Bool) → f a ≡ x → list_any f (range_with_len a (suc n)) ≡ true
    go again true h = rw h
    go again false h =
        let c : (a ≡ k) ⊎ (a < k) = eq-or-lt_of_le l in
        ⊎_elim (λ q. let z : f k ≡ false = rw (← q) h in cc) (λ (b : a < k). rw h (again (omega arith))) c

no_from : (f : ℕ → Bool) (a n : ℕ) → ((k : ℕ) → a ≤ k → k < a + n → f k ≡ false) → list_any f (range_with_len a n) ≡ false
no_from f a zero h = refl
no_from f a (suc n) h = rw (h a (omega arith) (omega arith)) (no_from f (a + 1) n (λ k l m. h k (omega arith) (omega arith)))

pub listed : (f : ℕ → Bool) (n : ℕ) → list_any f (range_with_len 0 n) ≡ any f n
listed f n = go (any f n) refl
  where
    go : (x : Bool) → any f n ≡ x → list_any f (range_with_len 0 n) ≡ any f n
    go true e = let w = any_find f n e in rw (e, one_from f 0 n w.0 (omega arith) (let l = w.1 in omega arith) w.2)
    go false e = rw (e, no_from f 0 n (λ k l m. (any_fails f n).0 e k (omega arith)))
