-- A loop that tests f at 0, 1, .. and stops at the first failure, and the test of all numbers below n. Assumes nothing.
use mathlib.Core.Path.{◌≡◌, refl, sym}
use mathlib.Core.Bool.{Bool, true, false}
use Prim.Native.Nat.{ℕ, suc, ◌+◌, ◌<◌, ◌≤◌}
use native.Mathlib.Omega.{arith}
use lib.Dec.{eqb}
use Rattle.model.specs.Logic.{all, ◌and◌}
use Rattle.model.proofs.Basics.{never}
use Rattle.model.proofs.Logic.{all_iff}

-- one failure
pub all_failed : (f : ℕ → Bool) (n k : ℕ) → k < n → f k ≡ false → false ≡ all f n
all_failed f n k l e = go (all f n) refl
  where
    go : (x : Bool) → all f n ≡ x → false ≡ all f n
    go true h = never ((all_iff f n).0 h k l) e
    go false h = sym h

-- a loop that goes through every number and joins the tests: one number more, and the end
pub all_next : (f : ℕ → Bool) (k : ℕ) {x g r : Bool} → x ≡ f k → g ≡ all f k → r ≡ (x and g) → r ≡ all f (k + 1)
unfolding all
all_next f k {x} {g} {r} e h q = rw next (rw (e, h) at q)
  where
    next : k + 1 ≡ suc k
    next = omega arith

pub all_done : (f : ℕ → Bool) (n k : ℕ) {g : Bool} → k ≤ n → n ≤ k → g ≡ all f k → g ≡ all f n
all_done f n k l m h = rw same at h
  where
    same : k ≡ n
    same = omega arith

-- numbers compared after they are widened
pub eqb_of : {x y a b : ℕ} → x ≡ a → y ≡ b → eqb x y ≡ eqb a b
eqb_of e h = rw (e, h)
