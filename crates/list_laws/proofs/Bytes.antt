-- Bytes joined two by two and three by three. Assumes nothing.
use mathlib.Core.Path.{◌≡◌, refl, ◌∙◌, ap}
use mathlib.Core.List.{List, [], ◌∷◌}
use Prim.Native.Nat.{ℕ, zero, suc, ◌+◌, ◌*◌, ◌<◌, ◌≤◌}
use native.Mathlib.Omega.{arith}
use lib.ListN.{length, get_or, take}
use Rattle.list_laws.specs.Printed.{joined}

pub joined_same : (f g : ℕ → List ℕ) (n : ℕ) → ((k : ℕ) → k < n → f k ≡ g k) → joined f n ≡ joined g n
unfolding joined
joined_same f g zero h = refl
joined_same f g (suc n) h = rw (h 0 (omega arith), joined_same (λ k. f (suc k)) (λ k. g (suc k)) n (λ k l. h (suc k) (omega arith)))

pub joined_none : (n : ℕ) → joined (λ k. []) n ≡ []
unfolding joined
joined_none zero = refl
joined_none (suc n) = joined_none n

-- ---- the bytes of a list, in order
abbrev pair : List ℕ → ℕ → List ℕ
pair l k = get_or l (2 * k) 0 ∷ get_or l (2 * k + 1) 0 ∷ []

abbrev triple : List ℕ → ℕ → List ℕ
triple l k = get_or l (3 * k) 0 ∷ get_or l (3 * k + 1) 0 ∷ get_or l (3 * k + 2) 0 ∷ []

next_two : (a b : ℕ) (l : List ℕ) (k : ℕ) → pair (a ∷ b ∷ l) (suc k) ≡ pair l k
next_two a b l k =
    let e : 2 * suc k + 1 ≡ suc (suc (2 * k + 1)) = omega arith in
    let f : 2 * suc k ≡ suc (suc (2 * k)) = omega arith in
    rw (e, f)

next_three : (a b c : ℕ) (l : List ℕ) (k : ℕ) → triple (a ∷ b ∷ c ∷ l) (suc k) ≡ triple l k
next_three a b c l k =
    let e : 3 * suc k + 2 ≡ suc (suc (suc (3 * k + 2))) = omega arith in
    let f : 3 * suc k + 1 ≡ suc (suc (suc (3 * k + 1))) = omega arith in
    let g : 3 * suc k ≡ suc (suc (suc (3 * k))) = omega arith in
    rw (e, f, g)

pub by_two : (l : List ℕ) (n : ℕ) → 2 * n ≤ length l → joined (pair l) n ≡ take (2 * n) l
unfolding joined
by_two l zero h = refl
by_two [] (suc n) h = absurd (omega arith)
by_two (a ∷ []) (suc n) h = absurd (omega arith)
by_two (a ∷ b ∷ l) (suc n) h =
    let e : 2 * suc n ≡ suc (suc (2 * n)) = omega arith in
    let s = joined_same (λ k. pair (a ∷ b ∷ l) (suc k)) (pair l) n (λ k x. next_two a b l k) in
    rw e (ap (λ (x : List ℕ). a ∷ b ∷ x) (s ∙ by_two l n (omega arith)))

pub by_three : (l : List ℕ) (n : ℕ) → 3 * n ≤ length l → joined (triple l) n ≡ take (3 * n) l
unfolding joined
by_three l zero h = refl
by_three [] (suc n) h = absurd (omega arith)
by_three (a ∷ []) (suc n) h = absurd (omega arith)
by_three (a ∷ b ∷ []) (suc n) h = absurd (omega arith)
by_three (a ∷ b ∷ c ∷ l) (suc n) h =
    let e : 3 * suc n ≡ suc (suc (suc (3 * n))) = omega arith in
    let s = joined_same (λ k. triple (a ∷ b ∷ c ∷ l) (suc k)) (triple l) n (λ k x. next_three a b c l k) in
    rw e (ap (λ (x : List ℕ). a ∷ b ∷ c ∷ x) (s ∙ by_three l n (omega arith)))
