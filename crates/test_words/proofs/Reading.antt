-- Numbers read digit by digit. Assumes nothing.
use mathlib.Core.Path.{◌≡◌, refl}
use mathlib.Core.Bool.{Bool, true, false, ◌&&◌}
use mathlib.Core.List.{List, [], ◌∷◌}
use Prim.Native.Nat.{ℕ, ◌+◌, ◌*◌, ◌≤◌, ◌<◌}
use native.Mathlib.Nat.{mul-le-mul}
use native.Mathlib.Omega.{arith}
use native.Mathlib.Numerals.{add-one}
use lib.Dec.{leb, eqb}
use lib.Pointwise.{pointwise}
use lib.ListN.{length, get_or, take, drop, drop_of_length-le}
use lib.Seq.{drop-cons}
use borrow.Author.Tests.{leb-true}
use Rattle.test_words.specs.Words.{pick}
use Rattle.test_words.specs.Numbers.{WRONG, digit_of, joined, value_after, minus, number_of}

-- a number with a digit after it is WRONG at most
low : (a b : Bool) (x : ℕ) → (b ≡ true → x ≤ WRONG) → pick a (pick b x WRONG) WRONG ≤ WRONG
unfolding pick
low true true x h = h refl
low true false x h = omega arith
low false b x h = omega arith

pub joined_low : (v d : ℕ) → joined v d ≤ WRONG
unfolding joined
joined_low v d = low (leb d 9) (leb (10 * v + d) WRONG) (10 * v + d) (leb-true (10 * v + d) WRONG)

-- ---- the digit at place i
pub value_on : (s : List ℕ) (i v : ℕ) → i < length s → value_after (joined v (digit_of (get_or s i 0))) (drop (i + 1) s) ≡ value_after v (drop i s)
unfolding value_after
value_on s i v more = rw (add-one i, drop-cons s i 0 more)

pub value_end : (s : List ℕ) (i v : ℕ) → length s ≤ i → value_after v (drop i s) ≡ v
unfolding value_after
value_end s i v h = rw (drop_of_length-le s h)

-- ---- a number with a minus before it, and without
pub signed : (s : List ℕ) → pointwise eqb (take 1 s) (45 ∷ []) ≡ true → number_of s ≡ minus (value_after 0 (drop 1 s))
unfolding number_of pick
signed [] e = absurd (cc)
signed (b ∷ t) e = go (eqb b 45) e
  where
    go : (x : Bool) → (x && true) ≡ true → pick x (minus (value_after 0 t)) (value_after 0 (b ∷ t)) ≡ minus (value_after 0 t)
    go true e = refl
    go false e = absurd (cc)

pub unsigned : (s : List ℕ) → pointwise eqb (take 1 s) (45 ∷ []) ≡ false → number_of s ≡ value_after 0 s
unfolding number_of pick
unsigned [] e = refl
unsigned (b ∷ t) e = go (eqb b 45) e
  where
    go : (x : Bool) → (x && true) ≡ false → pick x (minus (value_after 0 t)) (value_after 0 (b ∷ t)) ≡ value_after 0 (b ∷ t)
    go true e = absurd (cc)
    go false e = refl

-- the product of two bytes
pub small : {x y : ℕ} → x ≤ 255 → y ≤ 255 → x * y ≤ 65025
small a b = mul-le-mul a b
