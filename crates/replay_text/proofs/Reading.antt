-- Reading a number, or a size, digit by digit. Assumes nothing.
use Rattle.std.proofs.Common.{◌≡◌, refl, sym, ◌∙◌, Bool, true, false, not, List, [], ◌∷◌, Option, Some, None, ℕ, zero, suc, ◌+◌, ◌*◌, ◌-◌, ◌≤◌, ◌<◌, eqb, leb, min, length}
use Rattle.std.proofs.Common.{get_or, drop, drop-cons, drop_of_length-le, add-one, ap, arith}
use borrow.Author.Tests.{leb-true, le-leb, lt-leb, ne_eqb}
use Rattle.std.specs.Bool.{then_some}
use Rattle.model.proofs.Logic.{and_iff}
use Rattle.model.specs.Logic.{when◌then◌else◌, ◌and◌}
use Rattle.replay_text.specs.Sizes.{is_digit, digit_of, all_digits, value_after, number_after, size_after}

-- ---- a value only grows
pub grows : (v : ℕ) (t : List ℕ) → v ≤ value_after v t
unfolding value_after
grows v [] = omega arith
grows v (b ∷ t) = let i = grows (10 * v + (b - 48)) t in omega arith

-- so it may be capped before more digits
capped : (m x y : ℕ) (t : List ℕ) → y ≡ min x m → min (value_after y t) m ≡ min (value_after x t) m
capped m x y t e =
    let g = grows x t in
    let h = grows y t in
    grind arith

-- ---- one byte
some_is : (b : Bool) (x : ℕ) {n : ℕ} → (when b then Some x else None) ≡ Some n → (b ≡ true) × (n ≡ x)
unfolding when◌then◌else◌
some_is true x e = (refl, cc)
some_is false x e = cc

none_if : (b : Bool) (x : ℕ) → (when b then Some x else None) ≡ None → b ≡ false
unfolding when◌then◌else◌
none_if true x e = cc
none_if false x e = refl

-- what the value of a digit says of the byte
pub digit_is : (b : ℕ) {d : ℕ} → digit_of b ≡ Some d → (is_digit b ≡ true) × (d ≡ b - 48)
unfolding digit_of
digit_is b e = some_is (is_digit b) (b - 48) e

pub digit_not : (b : ℕ) → digit_of b ≡ None → is_digit b ≡ false
unfolding digit_of
digit_not b e = none_if (is_digit b) (b - 48) e

pub digit_range : (b : ℕ) → is_digit b ≡ true → (48 ≤ b) × (b ≤ 57)
unfolding is_digit
digit_range b e = let g = (and_iff (leb 48 b) (leb b 57)).0 e in (leb-true 48 b g.0, leb-true b 57 g.1)

pub digit_low : (b : ℕ) {d : ℕ} → digit_of b ≡ Some d → d ≤ 9
digit_low b e =
    let g = digit_is b e in
    let h = digit_range b g.0 in omega arith

pub number_on : (m v b : ℕ) (t : List ℕ) {d : ℕ} → digit_of b ≡ Some d → number_after m (min (10 * v + d) m) t ≡ number_after m v (b ∷ t)
unfolding number_after all_digits value_after
number_on m v b t e =
    let g = digit_is b e in
    rw (g.0, g.1, capped m (10 * v + (b - 48)) (min (10 * v + (b - 48)) m) t refl)

pub number_stop : (m v b : ℕ) (t : List ℕ) → digit_of b ≡ None → number_after m v (b ∷ t) ≡ None
unfolding number_after all_digits value_after when◌then◌else◌
number_stop m v b t e = rw (digit_not b e)

pub size_on : (v b : ℕ) (t : List ℕ) → is_digit b ≡ true → size_after v (b ∷ t) ≡ size_after (10 * v + (b - 48)) t
unfolding size_after all_digits value_after
size_on v b t e = rw e

pub size_stop : (v b : ℕ) (t : List ℕ) → is_digit b ≡ false → size_after v (b ∷ t) ≡ None
unfolding size_after all_digits value_after when◌then◌else◌
size_stop v b t e = rw e

-- the bytes from i on are byte i and the others
pub at_byte : {A : Type 0} (f : List ℕ → A) (t : List ℕ) (i : ℕ) → i < length t → f (drop i t) ≡ f (get_or t i 0 ∷ drop (i + 1) t)
at_byte f t i h = ap f (drop-cons t i 0 h ∙ rw add-one)

-- ---- the end
pub number_end : (m v : ℕ) → v ≤ m → number_after m v [] ≡ Some v
unfolding number_after all_digits value_after when◌then◌else◌
number_end m v h = grind arith

-- ---- a size
either_none : (a b : Bool) (o : Option ℕ) → (when a and b and false then o else None) ≡ None
unfolding when◌then◌else◌
either_none true true o = refl
either_none true false o = refl
either_none false b o = refl

pub size_large : (v : ℕ) (t : List ℕ) → 4096 < v → size_after v t ≡ None
unfolding size_after
size_large v t h =
    let g = grows v t in
    rw (lt-leb (value_after v t) 4096 (omega arith)) (either_none (all_digits t) (leb 1 (value_after v t)) (Some (value_after v t)))

pub size_none : size_after 0 [] ≡ None
unfolding size_after all_digits value_after when◌then◌else◌
size_none = refl

pub size_end : (v : ℕ) → 1 ≤ v → v ≤ 4096 → size_after v [] ≡ Some v
unfolding size_after all_digits value_after when◌then◌else◌
size_end v l h = rw (le-leb 1 v l, le-leb v 4096 h)

-- a size is not 0
pub size_last : (v : ℕ) → v ≤ 4096 → {o : Option ℕ} → o ≡ then_some (not (eqb v 0)) v → o ≡ size_after v []
size_last zero h e = e ∙ sym size_none
size_last (suc v) h e = rw (ne_eqb (suc v) 0 (λ z. omega arith)) at e ∙ sym (size_end (suc v) (omega arith) h)

-- a turn of the loop at byte i
module _ (t : List ℕ) (i v : ℕ) (more : i < length t) where
  pub turn_on : {d : ℕ} → digit_of (get_or t i 0) ≡ Some d → size_after (10 * v + d) (drop (i + 1) t) ≡ size_after v (drop i t)
  turn_on e =
      let g = digit_is (get_or t i 0) e in
      rw g.1 (sym (at_byte (size_after v) t i more ∙ size_on v (get_or t i 0) (drop (i + 1) t) g.0))

  pub turn_stop : digit_of (get_or t i 0) ≡ None → size_after v (drop i t) ≡ None
  turn_stop e = at_byte (size_after v) t i more ∙ size_stop v (get_or t i 0) (drop (i + 1) t) (digit_not (get_or t i 0) e)

-- all bytes read
pub left_none : (t : List ℕ) (i v : ℕ) → length t ≤ i → size_after v (drop i t) ≡ size_after v []
left_none t i v h = rw (drop_of_length-le t h)
