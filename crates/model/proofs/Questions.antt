-- What the definition of the parents above comes to. Assumes nothing.
use mathlib.Core.Path.{◌≡◌, refl, sym, ap}
use mathlib.Core.Bool.{Bool, true, false}
use mathlib.Core.List.{List}
use Prim.Native.Nat.{ℕ, zero, suc, ◌<◌, ◌≤◌}
use native.Mathlib.Omega.{arith}
use native.Mathlib.Decide.{ℕ_discrete}
use lib.ListN.{get_or}
use lib.Dec.{eqb}
use borrow.Author.Tests.{eqb-false, eq-eqb, ne_eqb}
use Rattle.model.specs.Limits.{NONE}
use Rattle.model.specs.Logic.{when◌then◌else◌}
use Rattle.model.specs.State.{State}
use Rattle.model.specs.Questions.{climb, parents_above}
use Rattle.model.specs.Sound.{Ordered}

-- the parents of the devices up to p are lower than their children
abbrev pub Rising : List ℕ → ℕ → Type 0
Rising parent p = (q : ℕ) → q ≤ p → (get_or parent q 0 ≡ NONE → ⊥) → get_or parent q 0 < q

if_same : (c : Bool) (x y : ℕ) → (c ≡ false → x ≡ y) → (when c then 0 else x) ≡ (when c then 0 else y)
unfolding when◌then◌else◌
if_same true x y f = refl
if_same false x y f = f refl

module _ (parent : List ℕ) where
  -- a parent that is not lower is none
  no_parent : (p : ℕ) → Rising parent p → p ≤ get_or parent p 0 → get_or parent p 0 ≡ NONE
  no_parent p r h = elim (ℕ_discrete (get_or parent p 0) NONE) [ yes e ↦ e | no ne ↦ let z = r p (omega arith) ne in absurd (omega arith) ]

  pub climb_none : (a p : ℕ) → Rising parent p → p ≤ get_or parent p 0 → climb parent a p ≡ 0
  unfolding climb when◌then◌else◌
  climb_none zero p r h = refl
  climb_none (suc a) p r h = rw (eq-eqb _ _ (no_parent p r h))

  -- the number of the device is steps enough
  climb_enough : (a b p : ℕ) → Rising parent p → p ≤ a → p ≤ b → climb parent a p ≡ climb parent b p
  unfolding climb
  climb_enough zero b p r ha hb = let e : p ≡ 0 = omega arith in sym (climb_none b p r (omega arith))
  climb_enough (suc a) zero p r ha hb = let e : p ≡ 0 = omega arith in climb_none (suc a) p r (omega arith)
  climb_enough (suc a) (suc b) p r ha hb =
      if_same _ _ _
      (λ e. let z = r p (omega arith) (eqb-false _ _ e) in ap suc (climb_enough a b (get_or parent p 0) (λ q l. r q (omega arith)) (omega arith) (omega arith)))

  pub climb_one : (p : ℕ) → Rising parent p → get_or parent p 0 < p → p ≤ NONE → climb parent p p ≡ suc (climb parent (get_or parent p 0) (get_or parent p 0))
  unfolding climb when◌then◌else◌
  climb_one zero r l h = absurd (omega arith)
  climb_one (suc p) r l h =
      let up = get_or parent (suc p) 0 in
      rw (ne_eqb up NONE (λ e. omega arith)) (ap suc (climb_enough p up up (λ q b. r q (omega arith)) (omega arith) (omega arith)))

-- no parent: none above; else one more than above the parent
pub above_step :
    (s : State) → Ordered s.wiring → (p : ℕ) → p < s.wiring.n
    → parents_above s p ≡ (when eqb (get_or s.wiring.parent p 0) NONE then 0 else suc (parents_above s (get_or s.wiring.parent p 0)))
unfolding parents_above climb when◌then◌else◌
above_step s r zero h = rw (eq-eqb _ _ (no_parent s.wiring.parent 0 (λ q l. r.parents q (omega arith)) (omega arith)))
above_step s r (suc p) h =
    let q = get_or s.wiring.parent (suc p) 0 in
    if_same _ _ _
    (λ e.
    let z = r.parents (suc p) h (eqb-false _ _ e) in
    ap suc (climb_enough s.wiring.parent p q q (λ k l. r.parents k (omega arith)) (omega arith) (omega arith)))
