-- Tests and what they tell: `simp tests at e` turns an equation of a test into facts, and `simp tests` the other way. Assumes nothing.
use mathlib.Core.Path.{◌≡◌, refl}
use mathlib.Core.Bool.{Bool, true, false, not}
use mathlib.Core.Logic.{◌⊎◌, ⊎_elim, ◌↔◌}
use Prim.Native.Nat.{ℕ, zero, suc, ◌<◌, ◌≤◌}
use native.Mathlib.Omega.{arith}
use native.Mathlib.Nat.{eq-or-lt_of_le}
use lib.Dec.{ltb, leb, eqb}
use borrow.Author.Tests.{ltb-true, ltb-false, leb-true, leb-false, eqb-true, eqb-false, lt-ltb, le-ltb, le-leb, lt-leb, eq-eqb, ne_eqb}
use Rattle.model.specs.Logic.{when◌then◌else◌, ◌and◌, ◌or◌, ◌implies◌, any, all}
use Rattle.model.proofs.Basics.{never, and_parts, and_of, any_of, any_find}

-- ---- a test is true exactly where its fact holds
pub lt_iff : (a b : ℕ) → (ltb a b ≡ true) ↔ (a < b)
lt_iff a b = (ltb-true a b, lt-ltb a b)

pub le_iff : (a b : ℕ) → (leb a b ≡ true) ↔ (a ≤ b)
le_iff a b = (leb-true a b, le-leb a b)

pub eq_iff : (a b : ℕ) → (eqb a b ≡ true) ↔ (a ≡ b)
eq_iff a b = (eqb-true a b, eq-eqb a b)

pub and_iff : (x y : Bool) → (x and y ≡ true) ↔ ((x ≡ true) × (y ≡ true))
and_iff x y = (and_parts x y, λ h. and_of x y h.0 h.1)

pub not_iff : (x : Bool) → (not x ≡ true) ↔ (x ≡ false)
not_iff true = (λ e. never e refl, λ e. never refl e)
not_iff false = (λ e. refl, λ e. refl)

-- unless x, y
pub or_iff : (x y : Bool) → (x or y ≡ true) ↔ (x ≡ false → y ≡ true)
or_iff true y = (λ e f. never refl f, λ f. refl)
or_iff false y = (λ e f. e, λ f. f refl)

pub implies_iff : (x y : Bool) → (x implies y ≡ true) ↔ (x ≡ true → y ≡ true)
unfolding ◌implies◌
implies_iff true y = (λ e f. e, λ f. f refl)
implies_iff false y = (λ e f. never f refl, λ f. refl)

pub if_iff : (c x y : Bool) → ((when c then x else y) ≡ true) ↔ ((c ≡ true → x ≡ true) × (c ≡ false → y ≡ true))
unfolding when◌then◌else◌
if_iff true x y = (λ e. (λ z. e, λ f. never refl f), λ h. h.0 refl)
if_iff false x y = (λ e. (λ z. never z refl, λ f. e), λ h. h.1 refl)

pub all_iff : (f : ℕ → Bool) (n : ℕ) → (all f n ≡ true) ↔ ((i : ℕ) → i < n → f i ≡ true)
unfolding all
all_iff f zero = (λ e i l. absurd (omega arith), λ h. refl)
all_iff f (suc n) = (
  λ e i l. let c : (i ≡ n) ⊎ (i < n) = eq-or-lt_of_le (omega arith) in ⊎_elim (λ q. rw q (and_parts _ _ e).0) (λ q. (all_iff f n).0 (and_parts _ _ e).1 i q) c,
  λ h. and_of _ _ (h n (omega arith)) ((all_iff f n).1 (λ i l. h i (omega arith))),
)

-- ---- and false exactly where another holds
pub lt_fails : (a b : ℕ) → (ltb a b ≡ false) ↔ (b ≤ a)
lt_fails a b = (ltb-false a b, le-ltb a b)

pub le_fails : (a b : ℕ) → (leb a b ≡ false) ↔ (b < a)
le_fails a b = (leb-false a b, lt-leb a b)

pub eq_fails : (a b : ℕ) → (eqb a b ≡ false) ↔ (a ≡ b → ⊥)
eq_fails a b = (eqb-false a b, ne_eqb a b)

pub not_fails : (x : Bool) → (not x ≡ false) ↔ (x ≡ true)
not_fails true = (λ e. refl, λ e. refl)
not_fails false = (λ e. never refl e, λ e. never e refl)

pub and_fails : (x y : Bool) → (x and y ≡ false) ↔ (x ≡ true → y ≡ false)
and_fails true y = (λ e f. e, λ f. f refl)
and_fails false y = (λ e f. never f refl, λ f. refl)

pub or_fails : (x y : Bool) → (x or y ≡ false) ↔ ((x ≡ false) × (y ≡ false))
or_fails true y = (λ e. never refl e, λ f. f.0)
or_fails false y = (λ e. (refl, e), λ f. f.1)

pub any_fails : (f : ℕ → Bool) (n : ℕ) → (any f n ≡ false) ↔ ((i : ℕ) → i < n → f i ≡ false)
any_fails f n = (λ e i l. one e i l (f i) refl, λ h. go (any f n) refl h)
  where
    one : any f n ≡ false → (i : ℕ) → i < n → (x : Bool) → f i ≡ x → f i ≡ false
    one e i l true h = never (any_of f n i l h) e
    one e i l false h = h

    go : (x : Bool) → any f n ≡ x → ((i : ℕ) → i < n → f i ≡ false) → any f n ≡ false
    go true e h = let w = any_find f n e in never w.2 (h w.0 w.1)
    go false e h = e

pub ruleset tests = (implies_iff, and_iff, all_iff, or_iff, if_iff, not_iff, lt_iff, le_iff, eq_iff, and_fails, or_fails, any_fails, not_fails, lt_fails, le_fails, eq_fails)
