-- Results by what they answer, and part numbers by the devices that they name. Assumes nothing.
use mathlib.Core.Path.{◌≡◌, refl, sym, ap}
use Prim.Native.Nat.{ℕ, zero, suc, ◌+◌, ◌*◌, ◌<◌, ◌≤◌, ◌%◌, ◌/◌}
use native.Mathlib.Omega.{arith}
use native.Mathlib.Decide.{dec_lt}
use lib.IntN.{pos, neg_ℤ}
use lib.Dec.{leb}
use borrow.Author.Tests.{eq-eqb, ne_eqb, lt-ltb, le-ltb, le-leb}
use Rattle.model.specs.Logic.{when◌then◌else◌}
use Rattle.model.specs.Limits.{NONE}
use Rattle.c_calls.specs.Numbers.{RANGE, answered, refusal_in, count_in, device_of}

pub answered_refused : (number value : ℕ) → (number ≡ 0 → ⊥) → answered number value ≡ neg_ℤ (pos number)
unfolding answered when◌then◌else◌
answered_refused number value ne = rw (ne_eqb _ _ ne)

pub answered_given : (number value : ℕ) → number ≡ 0 → answered number value ≡ pos value
unfolding answered when◌then◌else◌
answered_given number value e = rw (eq-eqb _ _ e)

-- ---- results, read back
pub result_refusal : (number value : ℕ) → refusal_in (answered number value) ≡ number
unfolding refusal_in
result_refusal zero value = rw (answered_given 0 value refl)
result_refusal (suc n) value = rw (answered_refused (suc n) value (λ e. absurd (omega arith)))

pub result_count : (number value : ℕ) → ((number ≡ 0 → ⊥) → value ≡ 0) → count_in (answered number value) ≡ value
unfolding count_in
result_count zero value f = rw (answered_given 0 value refl)
result_count (suc n) value f = rw (answered_refused (suc n) value (λ e. absurd (omega arith))) (sym (f (λ e. absurd (omega arith))))

-- ---- numbers that fit
-- a count
pub given_whole : (x : ℕ) → x < RANGE → pos (x % RANGE) ≡ pos x
given_whole x l = let e : x % RANGE ≡ x = omega arith in ap pos e

-- a number and 256 times a value, taken apart
pub answered_code : (number value : ℕ) → number < 256 → value < RANGE → answered ((number + 256 * value) % 256) ((number + 256 * value) / 256 % RANGE) ≡ answered number value
answered_code number value l h =
    let e : (number + 256 * value) % 256 ≡ number = omega arith in
    let f : (number + 256 * value) / 256 ≡ value = omega arith in
    let g : value % RANGE ≡ value = omega arith in
    rw (e, f, g)

-- ---- devices
-- a device that there is
pub device_known : (n p : ℕ) → n ≤ NONE → p < n → device_of p ≡ p
unfolding device_of when◌then◌else◌
device_known n p few l = rw (lt-ltb p NONE (omega arith))

-- a part number is below n exactly when its device is
pub device_same : (n p : ℕ) → n ≤ NONE → leb n (device_of p) ≡ leb n p
unfolding device_of when◌then◌else◌
device_same n p few =
    elim (dec_lt p NONE) [ yes l ↦ rw (lt-ltb p NONE l) | no g ↦ rw (le-ltb p NONE (omega arith), le-leb n NONE few, le-leb n p (omega arith)) ]
