-- What the code's tests tell: a device that they lead to is lower and sleeps. Assumes nothing.
use mathlib.Core.Path.{◌≡◌, refl}
use mathlib.Core.Bool.{true}
use mathlib.Core.Logic.{◌↔◌}
use Prim.Native.Nat.{ℕ, ◌<◌, ◌≤◌}
use native.Mathlib.Omega.{arith}
use lib.ListN.{get_or}
use Rattle.model.specs.Limits.{NONE}
use Rattle.model.specs.Table.{Wiring}
use Rattle.model.specs.State.{State}
use Rattle.model.specs.WakeSet.{Sleeping, Needs, child}
use Rattle.model.proofs.Logic.{tests, and_iff, lt_iff}
use Rattle.wake_rules.specs.Rests.{on_parent, on_supplier, sleeping_parent, sleeping_supplier}

-- the parent, or the supplier by link i, is lower than p
pub lower_parent : (w : Wiring) (p : ℕ) → on_parent w p ≡ true → get_or w.parent p 0 < p
unfolding on_parent
lower_parent w p e = (simp tests at e).0

pub lower_supplier : (w : Wiring) (p i : ℕ) → on_supplier w p i ≡ true → get_or w.supplier i 0 < p
unfolding on_supplier
lower_supplier w p i e = (simp tests at e).0

-- the code's tests: p rests on it, and it sleeps
pub parent_tests : (s : State) (p : ℕ) → (sleeping_parent s p ≡ true) ↔ ((on_parent s.wiring p ≡ true) × Sleeping s.devices.status (get_or s.wiring.parent p 0))
unfolding sleeping_parent
parent_tests s p = (λ e. simp (and_iff, lt_iff) at e, λ f. simp (and_iff, lt_iff) f)

pub supplier_tests : (s : State) (p i : ℕ) →
    (sleeping_supplier s p i ≡ true) ↔ ((on_supplier s.wiring p i ≡ true) × Sleeping s.devices.status (get_or s.wiring.supplier i 0))
unfolding sleeping_supplier
supplier_tests s p i = (λ e. simp (and_iff, lt_iff) at e, λ f. simp (and_iff, lt_iff) f)

-- p rests on its parent
pub parent_needs : (w : Wiring) (p : ℕ) → p ≤ NONE → on_parent w p ≡ true → Needs w p (get_or w.parent p 0)
unfolding on_parent
parent_needs w p few e = let f = simp tests at e in let z = f.0 in child refl (λ y. omega arith) f.1
