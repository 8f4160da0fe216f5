-- The number of a word, as its digits are read. Assumes nothing.
use Rattle.std.proofs.Common.{◌≡◌, refl, sym, ◌∙◌, Bool, true, false, List, Option, Some, None, Result, Ok, Err, ℕ, ◌≤◌, ◌<◌, eqb, length, min, arith}
use borrow.Author.Tests.{le-leb, lt-leb}
use native.Mathlib.Decide.{dec_lt}
use Rattle.model.specs.Logic.{when◌then◌else◌}
use Rattle.replay_text.specs.Sizes.{all_digits, value_after, number_of, number_after}
use Rattle.list_lines.specs.Numbers.{capped, number_in}
use Rattle.list_lines.specs.declared.entries.Fault.{Fault}
use Rattle.list_lines.specs.declared.entries.Fault.TheVariants.{Large, Wrong}

-- a number that was capped over 255
pub fit : Option ℕ → Result ℕ Fault
fit (Some v) = capped v
fit None = Err Wrong

small : (x : ℕ) → x ≤ 255 → capped x ≡ Ok x
unfolding capped when◌then◌else◌
small x h = rw (le-leb x 255 h)

large : (x : ℕ) → 255 < x → capped x ≡ Err Large
unfolding capped when◌then◌else◌
large x h = rw (lt-leb x 255 h)

twice : (m x : ℕ) → 255 < m → capped (min x m) ≡ capped x
twice m x k = elim (dec_lt 255 x) [
  | yes h ↦ rw (large x h) (large (min x m) (omega arith))
  | no h ↦ (let e : min x m ≡ x = omega arith in rw e)
]

fit_if : (m : ℕ) → 255 < m → (b : Bool) (x : ℕ) → fit (when b then Some (min x m) else None) ≡ (when b then capped x else Err Wrong)
unfolding fit when◌then◌else◌
fit_if m k true x = twice m x k
fit_if m k false x = refl

pub number_read : {m : ℕ} → 255 < m → (w : List ℕ) (b : Bool) → (b ≡ eqb (length w) 0) → b ≡ false → fit (number_of m w) ≡ number_in w
unfolding number_in number_of number_after when◌then◌else◌
number_read {m} k w b e n = rw (sym e ∙ n) (fit_if m k (all_digits w) (value_after 0 w))

pub number_none : (w : List ℕ) (b : Bool) → (b ≡ eqb (length w) 0) → b ≡ true → Err Wrong ≡ number_in w
unfolding number_in when◌then◌else◌
number_none w b e n = rw (sym e ∙ n)

pub fit_none : {o : Option ℕ} → o ≡ None → Err Wrong ≡ fit o
unfolding fit
fit_none e = rw e

pub fit_low : (v : ℕ) {o : Option ℕ} → o ≡ Some v → v < 256 → Ok v ≡ fit o
unfolding fit
fit_low v e h = rw (e, small v (omega arith))

pub fit_high : (v : ℕ) {o : Option ℕ} → o ≡ Some v → 255 < v → Err Large ≡ fit o
unfolding fit
fit_high v e h = rw (e, large v h)
