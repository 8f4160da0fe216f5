-- Soundness is kept by kinds 10, 11 and 12. Assumes nothing.
use mathlib.Core.Path.{◌≡◌, sym, ◌∙◌}
use mathlib.Core.Bool.{false, not}
use Prim.Native.Nat.{ℕ, ◌<◌, ◌≤◌}
use native.Mathlib.Omega.{arith}
use native.Mathlib.Decide.{ℕ_discrete}
use native.Mathlib.Nat.{le_of_eq}
use lib.ListN.{get_or, set}
use lib.Seq.{get_or-set_same, get_or-set_other}
use lib.Dec.{ltb, eqb}
use borrow.Author.Tests.{ltb-false}
use Rattle.model.specs.Logic.{◌and◌, ◌or◌}
use Rattle.model.specs.State.{State, SUSPENDED, RESUMING, ACTIVE, status_at, children_at, with_status, with_ignore}
use Rattle.model.specs.WakeSet.{Needs, child, link}
use Rattle.model.specs.Requests.{parent_down, supplier_down, set_active, needed, set_suspended, ignore_children}
use Rattle.model.specs.Sound.{Steady, NoneOpen, Sound}
use Rattle.model.proofs.Basics.{by_if, at_set}
use Rattle.model.proofs.Logic.{tests, or_fails}
use Rattle.model.proofs.Counting.{child_counted}
use Rattle.model.proofs.Keeping.{Fed, Alone, room, row_used, status_row, kept_status, kept_error, kept_ignore, alone_free, none_open_lem, quiet}
use Rattle.model.proofs.Holding.{Good}
use Rattle.model.proofs.Suspending.{childless}

module _ {s : State} (h : Sound s) (o : s.callback.kind ≡ 0) (p : ℕ) (l : p < s.wiring.n) where
  steady : (q : ℕ) → Steady (status_at s q)
  steady = (none_open_lem h.callback o).steady

  -- the same with another steady status of p
  still : (v : ℕ) → Steady v → NoneOpen s.callback (set s.devices.status p v)
  still v z =
      let n = none_open_lem h.callback o in
      record {
        kind = n.kind;
        asked = n.asked;
        target = n.target;
        steady = at_set (λ q x. Steady x) s.devices.status p v (status_row s h.kept p l) z (λ q ne. steady q);
      }

  pub set_active_good : Good (set_active s p)
  unfolding set_active parent_down supplier_down
  set_active_good =
      by_if Good _ _ _ (λ e. h)
      (λ e. by_if Good _ _ _ (λ d. h)
      (λ d.
      let k = kept_status s h.kept p ACTIVE l (omega arith) (λ z. fed d) (λ z. absurd (omega arith)) in
      quiet _ (kept_error (with_status s p ACTIVE) k p 0 l (omega arith)) h.carried (still ACTIVE (omega arith))))
    where
      fed : parent_down s p or supplier_down s p ≡ false → Fed s p
      fed d q (child e ne ig) = let f = simp tests at d in rw (← e) (le_of_eq (sym (f.0 (rw e ne) (rw e ig))))
      fed d q (link i b c e f) = let g = simp tests at d in rw (← e) (le_of_eq (sym (g.1 i b c f)))

  pub set_suspended_good : Good (set_suspended s p)
  unfolding set_suspended needed
  set_suspended_good =
      by_if Good _ _ _ (λ e. h)
      (λ e. by_if Good _ _ _ (λ d. h)
      (λ d.
      let free = alone_free s h.kept p l (λ r ne. steady r) (alone d) in
      let k = kept_status s h.kept p SUSPENDED l (omega arith) (λ z. absurd (omega arith)) (λ z y. free) in
      quiet _ (kept_error (with_status s p SUSPENDED) k p 0 l (omega arith)) h.carried (still SUSPENDED (omega arith))))
    where
      alone : needed s p ≡ false → Alone s p
      alone d = let f = (or_fails _ _).0 d in record { links = omega (arith, f.1, ltb-false); children = childless s p f.0 }

  -- where p comes to count its children, those that are powered find p active
  pub ignore_children_good : (v : ℕ) → v ≤ 1 → Good (ignore_children s p v)
  unfolding ignore_children
  ignore_children_good v hv =
      by_if Good _ _ _ (λ e. h)
      (λ e. quiet _ (kept_ignore s h.kept p v l hv (record { rests = λ a q u d. rests e a q u d })) h.carried (none_open_lem h.callback o))
    where
      counted : (a : ℕ) → RESUMING ≤ status_at s a → get_or s.wiring.parent a 0 ≡ p → (p ≡ 255 → ⊥) → 1 ≤ children_at s p
      counted a u c ne =
          let r = room s h.kept in
          let w = (steady a).0 in
          rw h.kept.children (child_counted s.wiring s.devices.status a p (row_used s h.kept s.devices.status h.kept.statuses a u) c ne (omega arith) (omega arith))

      rests : eqb v 0 and not (eqb (status_at s p) ACTIVE) and ltb 0 (children_at s p) ≡ false → (a q : ℕ) → RESUMING ≤ status_at s a → Needs (with_ignore s p v).wiring a q → ACTIVE ≤ status_at s q
      rests e a q u (link i b c f g) = h.kept.supply.rests a q u (link i b c f g)
      rests e a q u (child c ne ig) =
          elim (ℕ_discrete q p) [
            | yes y ↦
                let r = room s h.kept in
                let g = h.kept.table.ignore_rows.long in
                let v0 = sym (get_or-set_same s.wiring.ignore p v 0 (omega arith)) ∙ (rw y at ig) in
                let f = simp tests at e in
                rw y (elim (ℕ_discrete (status_at s p) ACTIVE) [
                  | yes x ↦ omega arith
                  | no nx ↦ absurd (omega (arith, counted a u (c ∙ y) (λ f. ne (y ∙ f)), f v0 nx))
                ])
            | no nq ↦ h.kept.supply.rests a q u (child c ne (rw (get_or-set_other s.wiring.ignore p q v 0 nq) at ig))
          ]
