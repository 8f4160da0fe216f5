-- How much the questions can tell of a device of a sound bench. Assumes nothing.
use mathlib.Core.Path.{ap, ◌∙◌}
use mathlib.Core.List.{List}
use Prim.Native.Nat.{ℕ, zero, suc, ◌+◌, ◌<◌, ◌≤◌}
use native.Mathlib.Omega.{arith}
use lib.ListN.{get_or}
use lib.Dec.{eqb}
use Rattle.model.specs.Limits.{ROWS, LINKS, MAXHOLDS}
use Rattle.model.specs.Logic.{◌and◌, tally}
use Rattle.model.specs.State.{State, usage, children_at, is_live, is_child, link_count, child_count, children_of}
use Rattle.model.specs.Sound.{Sound}
use Rattle.model.specs.Questions.{climb, parents_above}
use Rattle.model.proofs.Basics.{by_if}
use Rattle.model.proofs.Counting.{at_column, at_linked, count_low}
use Rattle.model.proofs.Keeping.{room}

module _ {s : State} (h : Sound s) (p : ℕ) (l : p < s.wiring.n) where
  -- user holds are few, and there are no more links to it than links
  pub usage_low : usage s p ≤ MAXHOLDS + LINKS
  unfolding link_count tally
  usage_low =
      let k = h.kept in
      let rows = room s k in
      let held = k.holds.used p l in
      let links = k.table.order.links in
      let e = rw (at_linked s.wiring s.devices.status p (omega arith)) at (ap (λ col. get_or col p 0) k.linked) in
      omega (arith, e, count_low (λ i. is_live s.wiring s.devices.status i and eqb (get_or s.wiring.supplier i 0) p) s.wiring.m)

  -- no more children than devices
  pub children_low : children_at s p ≤ s.wiring.n
  unfolding children_of child_count tally
  children_low =
      let k = h.kept in
      let rows = room s k in
      let e = ap (λ col. get_or col p 0) k.children ∙ at_column (child_count s.wiring s.devices.status) ROWS p (omega arith) in
      omega (arith, e, count_low (λ i. is_child s.wiring s.devices.status i and eqb (get_or s.wiring.parent i 0) p) s.wiring.n)

climb_low : (parent : List ℕ) (k p : ℕ) → climb parent k p ≤ k
unfolding climb
climb_low parent zero p = omega arith
climb_low parent (suc k) p = by_if (λ n. n ≤ suc k) _ _ _ (λ e. omega arith) (λ e. let z = climb_low parent k (get_or parent p 0) in omega arith)

pub above_low : (s : State) (p : ℕ) → parents_above s p ≤ p
unfolding parents_above
above_low s p = climb_low s.wiring.parent p p
