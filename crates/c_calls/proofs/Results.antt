-- Numbers that fit a signed number of 32 bits, and negated ones. Assumes nothing.
use mathlib.Core.Path.{◌≡◌, sym, ap, subst, ◌∙◌}
use Prim.Native.Nat.{ℕ, zero, suc, ◌<◌}
use native.Mathlib.Omega.{arith}
use lib.IntN.{ℤ, pos, neg_ℤ, ◌-ℤ◌, +ℤ_idl}
use mir.Syntax.{w32}
use mir.Val.{SFits, to_z, of_z}
use mir.Facts.{to_z_pos, to_z-of_z}
use Rattle.c_calls.specs.Numbers.{RANGE}

pub positive : (n : ℕ) → n < RANGE → to_z w32 n ≡ pos n
positive n l = to_z_pos w32 l

negated_fits : (n : ℕ) → n < RANGE → SFits w32 (neg_ℤ (pos n))
negated_fits zero l = record { sfits = l }
negated_fits (suc n) l = record { sfits = omega arith }

-- 0 less n
module _ (n : ℕ) (l : n < RANGE) where
  less : pos 0 -ℤ to_z w32 n ≡ neg_ℤ (pos n)
  less = ap (λ (z : ℤ). pos 0 -ℤ z) (positive n l) ∙ +ℤ_idl (neg_ℤ (pos n))

  pub less_fits : SFits w32 (pos 0 -ℤ to_z w32 n)
  less_fits = subst (SFits w32) (sym less) (negated_fits n l)

  pub less_is : to_z w32 (of_z w32 (pos 0 -ℤ to_z w32 n)) ≡ neg_ℤ (pos n)
  less_is = to_z-of_z less_fits ∙ less
