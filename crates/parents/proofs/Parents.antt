-- Laws of the parents above a device, as the recursion finds them. Assumes nothing.
use mathlib.Core.Path.{◌≡◌, sym}
use mathlib.Core.List.{List}
use Prim.Native.Nat.{ℕ, ◌+◌, ◌<◌, ◌≤◌}
use native.Mathlib.Omega.{arith}
use lib.ListN.{get_or}
use Rattle.model.specs.Limits.{NONE}
use Rattle.model.specs.Questions.{parents_above}
use Rattle.model.proofs.Questions.{climb_none, climb_one}
use Rattle.memory.specs.Layout.{state_in}
use Rattle.parents.specs.Parents.{Above}

module _ {bytes : List ℕ} {p q : ℕ} where
  pub above_none : ((words : List ℕ) → q ≡ get_or (state_in bytes words).wiring.parent p 0) → p ≤ q → Above bytes p 0
  unfolding parents_above
  above_none e h = record { few = omega arith; is = λ words r l. sym (climb_none _ p p (λ k b. r.parents k (omega arith)) (rw (e words) at h)) }

  pub above_one : {n : ℕ} → p ≤ NONE → ((words : List ℕ) → q ≡ get_or (state_in bytes words).wiring.parent p 0) → q < p → Above bytes q n → Above bytes p (n + 1)
  unfolding parents_above
  above_one few e h a =
      record {
        few = (let f = a.few in omega arith);
        is =
            λ words r l.
            let g = climb_one (state_in bytes words).wiring.parent p (λ k b. r.parents k (omega arith)) (rw (e words) at h) few in
            let f = rw (e words) at (a.is words r (omega arith)) in
            omega arith;
      }
