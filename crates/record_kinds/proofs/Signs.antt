-- 16-bit numbers read as signed, and the constant tables. Assumes nothing.
use Rattle.model.specs.Logic.{all, ◌and◌, when◌then◌else◌}
use mathlib.Core.Path.{◌≡◌, refl, sym, ◌∙◌}
use mathlib.Core.Bool.{true, false}
use Prim.Native.Nat.{ℕ, zero, suc, ◌+◌, ◌-◌, ◌<◌, ◌≤◌}
use native.Mathlib.Omega.{arith}
use native.Mathlib.Decide.{dec_lt}
use mathlib.Core.List.{List, ◌∷◌, map, []}
use lib.ListN.{get_or}
use lib.IntN.{ℤ, pos, negsuc}
use lib.Signed.{le_z}
use mir.Syntax.{w16}
use mir.Val.{SFits, to_z, of_z}
use mir.ValLaws.{to_z-of_z}
use borrow.Author.Tests.{lt-ltb, le-ltb, lt-leb, le-leb}
use Rattle.model.proofs.Logic.{all_iff}
use Rattle.model.specs.Records.{LAST, Bounds, Kind, zero_only, plain, kinds, kind_of, signed, allowed}
use Rattle.record_kinds.specs.declared.Bounds as declared
use Rattle.record_kinds.specs.Kinds.{no_bounds, bounds_table, whole_table, always_table}

low : (v : ℕ) → v < 32768 → to_z w16 v ≡ pos v
low v l = rw (lt-ltb v 32768 l)

signed_low : (v : ℕ) → v < 32768 → pos v ≡ signed v
unfolding when◌then◌else◌
signed_low v l = rw (lt-leb 32768 v l)

signed_high : (v : ℕ) → 32768 ≤ v → v < 65536 → negsuc (65535 - v) ≡ signed v
unfolding when◌then◌else◌
signed_high v l h = rw (le-leb 32768 v l, lt-ltb v 65536 h, e)
  where
    e : 65536 - v ≡ suc (65535 - v)
    e = omega arith

-- the bits of a 16-bit number read as signed
pub signed_is : (v : ℕ) → v < 65536 → to_z w16 v ≡ signed v
signed_is v h =
    elim (dec_lt v 32768) [
      | yes l ↦ low v l ∙ signed_low v l
      | no g ↦ let e : 65536 - suc v ≡ 65535 - v = omega arith in rw (le-ltb v 32768 (omega arith), e) (signed_high v (omega arith) h)
    ]

fits : (k : ℕ) → k < 32768 → SFits w16 (negsuc k)
fits k l = record { sfits = l }

-- a number that went through its bits
pub through : (v : ℤ) → SFits w16 v → to_z w16 (of_z w16 v) ≡ v
through v f = to_z-of_z w16 v f

pub signed_through : (v : ℕ) → v < 65536 → to_z w16 (of_z w16 (signed v)) ≡ signed v
signed_through v h =
    elim (dec_lt v 32768) [
      | yes l ↦ rw (← signed_low v l) (through (pos v) (record { sfits = l }))
      | no g ↦ let k : 65535 - v < 32768 = omega arith in rw (← signed_high v (omega arith) h) (through (negsuc (65535 - v)) (fits (65535 - v) k))
    ]

-- ---- the constant tables are the columns of the model's table of kinds
abbrev bounds_of : declared.Bounds → Bounds
bounds_of b = record { least = b.0; greatest = b.1 }

mapped : {A B : Type 0} (f : A → B) (xs : List A) (k : ℕ) (a : A) → get_or (map f xs) k (f a) ≡ f (get_or xs k a)
mapped f [] k a = refl
mapped f (x ∷ xs) zero a = refl
mapped f (x ∷ xs) (suc k) a = mapped f xs k a

bounds_at : (k : ℕ) → (kind_of k).bounds ≡ bounds_of (get_or bounds_table k no_bounds)
unfolding kinds
bounds_at k = sym (mapped (λ (x : Kind). x.bounds) kinds k (plain zero_only)) ∙ mapped bounds_of bounds_table k no_bounds

pub whole_at : (k : ℕ) → (kind_of k).whole ≡ get_or whole_table k false
unfolding kinds
whole_at k = sym (mapped (λ (x : Kind). x.whole) kinds k (plain zero_only))

pub always_at : (k : ℕ) → (kind_of k).always ≡ get_or always_table k false
unfolding kinds
always_at k = sym (mapped (λ (x : Kind). x.always) kinds k (plain zero_only))

-- every kind allows 0: a test over the table
zero_fits : all (λ k. allowed k 0) (LAST + 1) ≡ true
unfolding all allowed kinds when◌then◌else◌
zero_fits = refl

pub zero_allowed : (k v : ℕ) → k ≤ LAST → v ≡ 0 → true ≡ allowed k v
zero_allowed k v h e = rw e (sym ((all_iff _ (LAST + 1)).0 zero_fits k (omega arith)))

-- the two tests of a value
pub allowed_is : (k v : ℕ) → (le_z (get_or bounds_table k no_bounds).0 (signed v) and le_z (signed v) (get_or bounds_table k no_bounds).1) ≡ allowed k v
unfolding allowed
allowed_is k v = rw (bounds_at k)
