-- Laws of tests, of a changed column and of the limits. Assumes nothing.
use mathlib.Core.Path.{◌≡◌, refl, ◌∙◌}
use mathlib.Core.Bool.{Bool, true, false}
use mathlib.Core.List.{List}
use mathlib.Core.Logic.{◌⊎◌, inl, inr, ⊎_elim}
use Prim.Native.Nat.{ℕ, zero, suc, ◌<◌, ◌≤◌}
use native.Mathlib.Omega.{arith}
use native.Mathlib.Nat.{eq-or-lt_of_le}
use native.Mathlib.Decide.{ℕ_discrete, dec_lt}
use lib.ListN.{length, get_or, set, length-set}
use lib.Seq.{get_or-set_same, get_or-set_other}
use Rattle.model.specs.Limits.{DEVICES, ROWS, NONE}
use Rattle.model.specs.Logic.{when◌then◌else◌, ◌and◌, ◌or◌, any, first}
use Rattle.model.specs.Sound.{Column}

-- ---- tests
-- what holds of each branch where its test says so holds of the choice
pub by_if : {A : Type 0} (P : A → Type 0) (c : Bool) (a b : A) → (c ≡ true → P a) → (c ≡ false → P b) → P (when c then a else b)
unfolding when◌then◌else◌
by_if P true a b f g = f refl
by_if P false a b f g = g refl

pub never : {A : Type 0} {x : Bool} → x ≡ true → x ≡ false → A
never e f = let z : ◌≡◌ {A = ℕ} 0 1 = cc in absurd (omega arith)

pub and_parts : (x y : Bool) → x and y ≡ true → (x ≡ true) × (y ≡ true)
and_parts true y e = (refl, e)
and_parts false y e = (e, cc)

pub and_of : (x y : Bool) → x ≡ true → y ≡ true → x and y ≡ true
and_of true y e f = f
and_of false y e f = e

pub or_cases : (x y : Bool) → x or y ≡ true → (x ≡ true) ⊎ (y ≡ true)
or_cases true y e = inl refl
or_cases false y e = inr e

pub or_none : (x y : Bool) → x or y ≡ false → (x ≡ false) × (y ≡ false)
or_none true y e = never refl e
or_none false y e = (refl, e)

pub or_left : (x y : Bool) → x ≡ true → x or y ≡ true
or_left true y e = refl
or_left false y e = cc

pub or_right : (x y : Bool) → y ≡ true → x or y ≡ true
or_right true y e = refl
or_right false y e = e

pub any_find : (f : ℕ → Bool) (n : ℕ) → any f n ≡ true → (i : ℕ) × (i < n) × (f i ≡ true)
unfolding any
any_find f zero e = never e refl
any_find f (suc n) e = ⊎_elim (λ h. (n, omega arith, h)) (λ h. let w = any_find f n h in (w.0, (let l = w.1 in omega arith), w.2)) (or_cases (f n) (any f n) e)

pub any_of : (f : ℕ → Bool) (n i : ℕ) → i < n → f i ≡ true → any f n ≡ true
unfolding any
any_of f zero i l e = absurd (omega arith)
any_of f (suc n) i l e =
    let c : (i ≡ n) ⊎ (i < n) = eq-or-lt_of_le (omega arith) in
    ⊎_elim (λ h. or_left (f n) (any f n) (rw h at e)) (λ h. or_right (f n) (any f n) (any_of f n i h e)) c

-- ---- the first number that passes a test
pub first_passes : (f : ℕ → Bool) (n : ℕ) → first f n < n → f (first f n) ≡ true
unfolding first
first_passes f zero = λ h. absurd (omega arith)
first_passes f (suc n) =
    by_if (λ x. x < suc n → f x ≡ true) (f 0) _ _ (λ e h. e) (λ e h. first_passes (λ k. f (suc k)) n (omega arith))

pub first_least : (f : ℕ → Bool) (n q : ℕ) → f q ≡ true → first f n ≤ q
unfolding first
first_least f zero q e = omega arith
first_least f (suc n) zero e = by_if (λ x. x ≤ 0) (f 0) _ _ (λ g. omega arith) (λ g. never e g)
first_least f (suc n) (suc q) e = by_if (λ x. x ≤ suc q) (f 0) _ _ (λ g. omega arith) (λ g. let z = first_least (λ k. f (suc k)) n q e in omega arith)

pub first_low : (f : ℕ → Bool) (n : ℕ) → first f n ≤ n
unfolding first
first_low f zero = omega arith
first_low f (suc n) = by_if (λ x. x ≤ suc n) (f 0) _ _ (λ e. omega arith) (λ e. let z = first_low (λ k. f (suc k)) n in omega arith)

-- where nothing below k passes, k is the first if it passes, or if it is the end
pub first_at : (f : ℕ → Bool) (n k : ℕ) → ((j : ℕ) → j < k → f j ≡ false) → k < n → f k ≡ true → first f n ≡ k
first_at f n k none l e = let z = first_least f n k e in elim (dec_lt (first f n) k) [ yes h ↦ never (first_passes f n (omega arith)) (none (first f n) h) | no h ↦ omega arith ]

pub first_none : (f : ℕ → Bool) (n : ℕ) → ((j : ℕ) → j < n → f j ≡ false) → first f n ≡ n
first_none f n none = let z = first_low f n in elim (dec_lt (first f n) n) [ yes h ↦ never (first_passes f n h) (none (first f n) h) | no h ↦ omega arith ]

-- ---- a column after one change
-- what holds of the new value, and of every other row as it was, holds of every row
pub at_set : (P : ℕ → ℕ → Type 0) (col : List ℕ) (p v : ℕ) → p < length col → P p v → ((q : ℕ) → (q ≡ p → ⊥) → P q (get_or col q 0)) → (q : ℕ) → P q (get_or (set col p v) q 0)
at_set P col p v h same other q =
    elim (ℕ_discrete q p) [
      | yes e ↦ rw (e, get_or-set_same col p v 0 h) same
      | no ne ↦ rw (get_or-set_other col p q v 0 ne) (other q ne)
    ]

pub column_set : {rows n most : ℕ} {col : List ℕ} → Column rows n most col → n ≤ rows → (p v : ℕ) → p < n → v ≤ most → Column rows n most (set col p v)
column_set {rows} {n} {most} {col} c h p v hp hv =
    let l = c.long in
    record {
      long = length-set col p v ∙ l;
      used = at_set (λ q x. q < n → x ≤ most) col p v (omega arith) (λ g. hv) (λ q ne. c.used q);
      unused = at_set (λ q x. n ≤ q → x ≡ 0) col p v (omega arith) (λ g. absurd (omega arith)) (λ q ne. c.unused q);
    }

-- ---- the limits
pub few_rows : {n : ℕ} → n ≤ DEVICES → n ≤ ROWS
unfolding DEVICES ROWS
few_rows h = omega arith

pub few_devices_lem : {n : ℕ} → n ≤ DEVICES → n < NONE
unfolding DEVICES
few_devices_lem h = omega arith

pub none_rows : {n : ℕ} → n ≤ NONE → n < ROWS
unfolding ROWS
none_rows h = omega arith
