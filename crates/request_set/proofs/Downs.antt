-- Suppliers that are not active, found among the links of one device; and the requests as changes of the state. Assumes nothing.
use mathlib.Core.Path.{◌≡◌, sym}
use mathlib.Core.Bool.{true, false}
use mathlib.Core.List.{List}
use Prim.Native.Nat.{ℕ, ◌+◌, ◌<◌, ◌≤◌}
use native.Mathlib.Omega.{arith}
use native.Mathlib.Decide.{ℕ_discrete}
use lib.ListN.{get_or}
use borrow.Author.Tests.{eq-eqb, ne_eqb}
use Rattle.model.specs.Limits.{ROWS, LINKS, EBUSY, minus}
use Rattle.model.specs.Logic.{when◌then◌else◌}
use Rattle.model.specs.State.{State, ACTIVE, SUSPENDED, with_status, with_error, with_ignore}
use Rattle.model.specs.Requests.{running, parent_down, supplier_down, needed, set_active, set_suspended, ignore_children}
use Rattle.model.specs.Records.{finished}
use Rattle.model.proofs.Basics.{any_of}
use Rattle.model.proofs.Logic.{any_fails}
use Rattle.links.specs.Firsts.{first_link, Indexed}
use Rattle.links.proofs.Order.{listed, first_at, next_at, next_fits, link_of, of_link}
use Rattle.request_set.specs.Sets.{link_down, inactive_with_children}

module _ {s : State} {first : List ℕ} (h : Indexed s first) (p : ℕ) (l : p < ROWS) where
  pub from_first : get_or first p 0 ≡ first_link s.wiring p
  from_first = rw h.index (first_at s.wiring p l)

  pub to_next : get_or first (p + 1) 0 ≡ first_link s.wiring (p + 1)
  to_next = rw h.index (next_at s.wiring p l)

  pub end_low : get_or first (p + 1) 0 ≤ LINKS
  end_low = rw to_next (next_fits (listed h) p)

  -- one of the links of p has its supplier down
  pub down_met : (i : ℕ) → get_or first p 0 ≤ i → i < get_or first (p + 1) 0 → link_down s i ≡ true → true ≡ supplier_down s p
  unfolding supplier_down link_down
  down_met i a b e =
      let o = link_of h.ready.rules.order p i (rw from_first at a) (rw to_next at b) in
      sym (any_of _ s.wiring.m i o.0 (rw (eq-eqb _ _ o.1) e))

  -- none has
  pub down_none : ((i : ℕ) → get_or first p 0 ≤ i → i < get_or first (p + 1) 0 → link_down s i ≡ false) → false ≡ supplier_down s p
  unfolding supplier_down link_down
  down_none none =
      sym ((any_fails _ s.wiring.m).1
      (λ i b.
      elim (ℕ_discrete (get_or s.wiring.consumer i 0) p) [
        | yes e ↦ let o = of_link h.ready.rules.order p i b e in rw (eq-eqb _ _ e) (none i (rw from_first o.0) (rw to_next o.1))
        | no ne ↦ rw (ne_eqb _ _ ne)
      ]))

-- ---- the requests as changes of the state, whatever the states are
module _ (s : State) (p : ℕ) where
  module _ (stopped : running s p ≡ false) where
    module _ {a b : State} (keep : b ≡ with_error a p 0) where
      pub active_set : parent_down s p ≡ false → supplier_down s p ≡ false → a ≡ with_status s p ACTIVE → set_active s p ≡ finished b p 0
      unfolding set_active when◌then◌else◌
      active_set e f set = rw (keep, set, stopped, e, f)

      pub suspended_set : needed s p ≡ false → a ≡ with_status s p SUSPENDED → set_suspended s p ≡ finished b p 0
      unfolding set_suspended when◌then◌else◌
      suspended_set e set = rw (keep, set, stopped, e)

  module _ (v : ℕ) where
    pub ignore_on : {b : State} → v ≤ 1 → 0 < v → b ≡ with_ignore s p 1 → ignore_children s p v ≡ finished b p 0
    unfolding ignore_children when◌then◌else◌
    ignore_on few some keep = let e : v ≡ 1 = omega arith in rw (keep, e)

    pub ignore_busy : v ≤ 0 → inactive_with_children s p ≡ true → ignore_children s p v ≡ finished s p (minus EBUSY)
    unfolding ignore_children inactive_with_children when◌then◌else◌
    ignore_busy none e = let z : v ≡ 0 = omega arith in rw (z, e)

    pub ignore_off : {b : State} → v ≤ 0 → inactive_with_children s p ≡ false → b ≡ with_ignore s p 0 → ignore_children s p v ≡ finished b p 0
    unfolding ignore_children inactive_with_children when◌then◌else◌
    ignore_off none e keep = let z : v ≡ 0 = omega arith in rw (keep, z, e)
