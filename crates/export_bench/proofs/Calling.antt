-- The last arms of the two matches by number: what is left has no place of its own in the lists of the definitions. Assumes nothing.
use mathlib.Core.Path.{◌≡◌, refl}
use Prim.Native.Nat.{ℕ, zero, suc, ◌+◌, ◌≤◌, ◌<◌}
use native.Mathlib.Omega.{arith}
use native.Mathlib.Decide.{dec_lt}
use lib.ListN.{get_or-eq_default}
use Rattle.model.specs.State.{State}
use Rattle.model.specs.Questions.{tell_wake}
use Rattle.keeper_bench.specs.Methods.{record_for}
use Rattle.export_bench.specs.Asked.{answers_about, asked_of}
use Rattle.export_bench.specs.Called.{methods, method_of}

-- i is none of k numbers from b on
unfoldable pub Passed : ℕ → ℕ → ℕ → Type 0
Passed i b zero = Unit {0}
Passed i b (suc k) = Passed i b k × (i ≡ b + k → ⊥)

pub past : (i b k : ℕ) → b ≤ i → Passed i b k → b + k ≤ i
unfolding Passed
past i b zero l r = omega arith
past i b (suc k) l r = let p = past i b k l r.0 in let ne = r.1 in omega arith

pub last_asked : (s : State) (question p q : ℕ) → 5 ≤ question → asked_of s question p q ≡ tell_wake s p q
unfolding asked_of answers_about
last_asked s question p q l = get_or-eq_default (answers_about s p) (tell_wake s p q) l

-- no kind from 1 to 12 is left
pub last_called : (kind p v : ℕ) → (1 ≤ kind → 13 ≤ kind) → method_of kind p v ≡ record_for 13 p v
unfolding method_of methods
last_called kind p v far =
    elim (dec_lt 0 kind) [ yes l ↦ get_or-eq_default (methods p v) (record_for 13 p v) (far l) | no l ↦ first kind l ]
  where
    first : (k : ℕ) → (0 < k → ⊥) → method_of k p v ≡ record_for 13 p v
    first zero l = refl
    first (suc k) l = absurd (l (omega arith))
