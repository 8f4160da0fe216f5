-- What the table of kinds says of kinds 12 and 13, and of all others. Assumes nothing.
use mathlib.Core.Path.{◌≡◌, refl}
use mathlib.Core.Bool.{true, false, not}
use Prim.Native.Nat.{ℕ, zero, suc, ◌+◌, ◌≤◌, ◌-◌}
use native.Mathlib.Omega.{arith}
use lib.Dec.{eqb}
use lib.IntN.{pos, neg_ℤ}
use lib.Signed.{le_z}
use borrow.Author.Tests.{ltb-true, leb-true, eqb-false, ne_eqb, not-true}
use Rattle.model.specs.Limits.{MAXERROR, minus}
use Rattle.model.specs.Logic.{◌or◌, all}
use Rattle.model.specs.Records.{LAST, RESULT, kinds, kind_of, allowed}
use Rattle.model.proofs.Basics.{by_if, never, and_parts}
use Rattle.model.proofs.Logic.{all_iff}

-- ---- kind 12: 0 or 1
neg_high : (k : ℕ) → 1 ≤ k → le_z (pos 0) (neg_ℤ (pos k)) ≡ true → ⊥
neg_high zero h e = absurd (omega arith)
neg_high (suc k) h e = never e refl

pub flag_low : (v : ℕ) → allowed 12 v ≡ true → v ≤ 1
unfolding allowed kinds
flag_low v a =
    by_if (λ z. le_z (pos 0) z ≡ true → le_z z (pos 1) ≡ true → v ≤ 1) _ _ _
    (λ e g h. absurd (neg_high (65536 - v) (let z = ltb-true v 65536 (and_parts _ _ e).1 in omega arith) g))
    (λ e g h. leb-true v 1 h)
    (and_parts _ _ a).0 (and_parts _ _ a).1

-- ---- only a result is answered while a callback is open: a test over the table
only_result : all (λ k. eqb k RESULT or not (kind_of k).always) (LAST + 1) ≡ true
unfolding all kinds
only_result = refl

pub waits : (kind : ℕ) → kind ≤ LAST → (kind ≡ RESULT → ⊥) → (kind_of kind).always ≡ false
waits kind h ne = let z = rw (ne_eqb kind RESULT ne) at ((all_iff _ (LAST + 1)).0 only_result kind (omega arith)) in not-true _ z

-- ---- kind 13: 0, or the negative of 1 to 4,095
neg_small : (k : ℕ) → le_z (neg_ℤ (pos MAXERROR)) (neg_ℤ (pos k)) ≡ true → k ≤ MAXERROR
neg_small zero e = omega arith
neg_small (suc k) e = omega (arith, leb-true)

pub error_small : (v : ℕ) → allowed RESULT v ≡ true → eqb v 0 ≡ false → minus v ≤ MAXERROR
unfolding allowed kinds
error_small v a ne =
    by_if (λ z. le_z (neg_ℤ (pos MAXERROR)) z ≡ true → le_z z (pos 0) ≡ true → minus v ≤ MAXERROR) _ _ _
    (λ e g h. neg_small (65536 - v) g)
    (λ e g h. absurd (omega (arith, leb-true v 0 h, eqb-false v 0 ne)))
    (and_parts _ _ a).0 (and_parts _ _ a).1
