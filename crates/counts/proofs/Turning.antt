-- What the code does to the counts, link by link, and that it brings them into line. Assumes nothing.
use mathlib.Core.Path.{◌≡◌, refl, sym, ◌∙◌, ap, ap₂}
use mathlib.Core.Bool.{Bool, true, false, beq}
use mathlib.Core.List.{List}
use Prim.Native.Nat.{ℕ, zero, suc, ◌+◌, ◌-◌, ◌<◌, ◌≤◌, ◌%◌}
use native.Mathlib.Omega.{arith}
use lib.ListN.{length, get_or, set}
use lib.Seq.{set-get_or}
use lib.Dec.{eqb}
use borrow.Author.Tests.{lt-ltb, le-ltb, lt-leb, eq-eqb}
use Rattle.model.specs.Limits.{LINKS, ROWS, NONE}
use Rattle.model.specs.Logic.{when◌then◌else◌}
use Rattle.model.specs.Sound.{Ordered}
use Rattle.model.specs.Table.{Wiring}
use Rattle.model.specs.State.{State, Devices, ACTIVE, powered, status_at, linked_at, with_status}
use Rattle.model.proofs.Basics.{by_if, none_rows, few_rows, few_devices_lem}
use Rattle.model.proofs.Counting.{same_children, same_linked}
use Rattle.memory.specs.Ready.{Ready, fixed}
use Rattle.memory.specs.Layout.{state_in}
use Rattle.memory.specs.Cells.{with_status_cell, with_linked_column, with_linked}
use Rattle.memory.proofs.Readiness.{status_row}
use Rattle.counts.specs.Shifts.{next, next_up_to, has_parent, runtime_of, shift_child, link_step, shift_link, link_steps, shift_links, shift_links_by, turned_by, Turned, only, Follows}
use Rattle.links.specs.Firsts.{first_link, Indexed}
use Rattle.links.proofs.Order.{link_of, of_link, first_low, first_rises, listed, index_first, index_next}
use Rattle.links.proofs.Order as order
use Rattle.counts.proofs.Shifting.{not_of, follow_one, follow_off, under, under_first, under_more, under_rest, children_follow, linked_follow, beq_same, beq_other}

-- ---- one link
-- a count that is stored again leaves the column as it was
stored_if : (b : Bool) (col : List ℕ) (q v : ℕ) → set col q (when b then v else get_or col q 0) ≡ (when b then set col q v else col)
unfolding when◌then◌else◌
stored_if true col q v = refl
stored_if false col q v = set-get_or col q 0

pub link_shifted : (s : State) (up : Bool) (i : ℕ) {q old v : ℕ} → q ≡ get_or s.wiring.supplier i 0 → old ≡ linked_at s q →
    v ≡ (when eqb (get_or s.wiring.flags i 0 % 2) 1 then next_up_to 65535 up old else old) → with_linked s q v ≡ shift_link s up i
unfolding shift_link link_step
link_shifted s up i e f g =
    let q = get_or s.wiring.supplier i 0 in
    let old = linked_at s q in
    rw (g, f, e) (ap (with_linked_column s) (stored_if (eqb (get_or s.wiring.flags i 0 % 2) 1) s.devices.linked q (next_up_to 65535 up old)))

-- ---- the loop
pub links_none : (s : State) (up : Bool) (a : ℕ) → shift_links s up a (a - a) ≡ s
unfolding shift_links link_steps
links_none s up a = let e : a - a ≡ 0 = omega arith in rw e

-- an index that leads past the links, and one that does not
module _ (first : List ℕ) (s : State) (p : ℕ) (up : Bool) where
  pub links_past : LINKS < get_or first (p + 1) 0 → s ≡ shift_links_by first s p up
  unfolding shift_links_by when◌then◌else◌
  links_past l = rw (lt-ltb LINKS (get_or first (p + 1) 0) l)

  pub links_within : get_or first (p + 1) 0 ≤ LINKS → shift_links s up (get_or first p 0) (get_or first (p + 1) 0 - get_or first p 0) ≡ shift_links_by first s p up
  unfolding shift_links_by when◌then◌else◌
  links_within l = rw (le-ltb LINKS (get_or first (p + 1) 0) l)

pub links_more : (s : State) (up : Bool) (a i : ℕ) → a ≤ i → shift_link (shift_links s up a (i - a)) up i ≡ shift_links s up a (i + 1 - a)
unfolding shift_links shift_link link_steps
links_more s up a i l = let e : i + 1 - a ≡ suc (i - a) = omega arith in let f : a + (i - a) ≡ i = omega arith in rw (e, f)

next_fits : (most : ℕ) (up : Bool) (x : ℕ) → next up x ≤ most → next_up_to most up x ≡ next up x
unfolding next_up_to next when◌then◌else◌
next_fits most true x l = rw (lt-leb most x (omega arith))
next_fits most false x l = refl

-- the state with these columns
abbrev counted : State → List ℕ → List ℕ → List ℕ → State
counted s z children linked =
    let d = s.devices in
    let devices : Devices = record { status = z; holds = d.holds; depth = d.depth; error = d.error; children = children; linked = linked } in
    record { wiring = s.wiring; devices = devices; callback = s.callback; carry = s.carry }

module _ (w : Wiring) (r : Ordered w) (p : ℕ) (up : Bool) where
  abbrev OfP : ℕ → Bool
  OfP = runtime_of w.consumer w.flags p

  step_follows : (i : ℕ) (col : List ℕ) → i < w.m → get_or w.consumer i 0 ≡ p → Follows (only i OfP) up w.supplier w.m col (link_step w up i col)
  unfolding link_step runtime_of LINKS
  step_follows i col l e =
      let few = r.links in
      let row : get_or w.supplier i 0 < ROWS = (let a = r.suppliers i l in let b = r.consumers i l in let c = few_rows r.devices in omega arith) in
      by_if (λ x. Follows (only i OfP) up w.supplier w.m col x) (eqb (get_or w.flags i 0 % 2) 1) _ _
      (λ y. follow_one _ up w.supplier w.m i col _ l row (rw (eq-eqb _ _ e) y) (λ h. next_fits 65535 up _ (omega arith)))
      (λ n. follow_off _ up w.supplier w.m i col (rw (eq-eqb _ _ e) n))

  steps_follow : (k : ℕ) (col : List ℕ) → first_link w p + k ≤ first_link w (p + 1) →
      Follows (under (first_link w p + k) OfP) up w.supplier w.m col (link_steps w up (first_link w p) k col)
  unfolding link_steps
  steps_follow zero col l = under_first _ up w.supplier w.m _ col (λ j g. not_of _ _ p j (λ e. absurd (early j (omega arith) e)))
    where
      early : (j : ℕ) → j < first_link w p → get_or w.consumer j 0 ≡ p → ⊥
      early j g e = let z = (of_link r p j (let y = first_low w p in omega arith) e).0 in omega arith
  steps_follow (suc k) col l =
      let i = first_link w p + k in
      let e : first_link w p + suc k ≡ i + 1 = omega arith in
      let o = link_of r p i (omega arith) (omega arith) in
      rw e (under_more _ up w.supplier w.m i col _ _ (steps_follow k col (omega arith)) (step_follows i _ o.0 o.1))

  links_follow : (col : List ℕ) → Follows OfP up w.supplier w.m col (link_steps w up (first_link w p) (first_link w (p + 1) - first_link w p) col)
  links_follow col =
      let h = first_rises w p in
      let e : first_link w p + (first_link w (p + 1) - first_link w p) ≡ first_link w (p + 1) = omega arith in
      under_rest _ up w.supplier w.m (first_link w (p + 1)) col _ (λ k g b. not_of _ _ p k (λ f. let z = (of_link r p k b f).1 in omega arith))
      (rw e at (steps_follow (first_link w (p + 1) - first_link w p) col (omega arith)))

-- ---- the whole
-- a device's row
pub row_of : {s : State} → Ready s → (p : ℕ) → p < s.wiring.n → p < length s.devices.status
row_of h p l = let f = few_rows h.rules.order.devices in status_row h p (omega arith)

-- two that are not powered
pub both_asleep : (a b : ℕ) → a < ACTIVE → b < ACTIVE → beq (powered a) (powered b) ≡ true
both_asleep a b l m = rw (lt-leb 2 a l, lt-leb 2 b m)

module _ (s : State) (p v : ℕ) (h : Ready s) (row : p < length s.devices.status) where
  pub turned_same : beq (powered (status_at s p)) (powered v) ≡ true → with_status_cell s p v ≡ with_status s p v
  turned_same e =
      let same = beq_same _ _ e in
      ap₂ (counted s (set s.devices.status p v)) (h.children ∙ sym (same_children s.wiring s.devices.status p v row same))
      (h.linked ∙ sym (same_linked s.wiring s.devices.status p v row same))

  module _ (l : p < s.wiring.n) (e : beq (powered (status_at s p)) (powered v) ≡ false) where
    -- the links of p in the table
    abbrev w : Wiring
    w = s.wiring

    abbrev from : ℕ
    from = first_link w p

    abbrev many : ℕ
    many = first_link w (p + 1) - first_link w p

    both : (children : List ℕ) → Follows (only p (has_parent w.parent)) (powered v) w.parent w.n s.devices.children children →
        counted s (set s.devices.status p v) children (link_steps w (powered v) from many s.devices.linked) ≡ with_status s p v
    both children f =
        let other = beq_other _ _ e in
        ap₂ (counted s (set s.devices.status p v)) (children_follow s.devices.status p v row other w _ _ f h.children)
        (linked_follow s.devices.status p v row other w _ _ (links_follow w h.rules.order p (powered v) s.devices.linked) h.linked)

    pub turned_other : shift_links (shift_child (with_status_cell s p v) p (powered v)) (powered v) from many ≡ with_status s p v
    unfolding shift_child shift_links has_parent
    turned_other =
        let key = w.parent in
        let few = few_devices_lem h.rules.order.devices in
        by_if (λ (x : State). shift_links x (powered v) from many ≡ with_status s p v) (eqb (get_or key p 0) NONE) _ _
        (λ y. both _ (follow_off _ _ key w.n p s.devices.children (rw y)))
        (λ n. both _ (follow_one _ _ key w.n p s.devices.children _ l (none_rows (h.rules.parent_rows.used p l)) (rw n) (λ g. next_fits 255 (powered v) _ (omega arith))))

-- ---- in any state, with any index
module _ (first : List ℕ) (s : State) (p v : ℕ) where
  pub any_same : beq (powered (status_at s p)) (powered v) ≡ true → with_status_cell s p v ≡ turned_by first s p v
  unfolding turned_by when◌then◌else◌
  any_same e = rw e

  pub any_other : beq (powered (status_at s p)) (powered v) ≡ false
      → shift_links_by first (shift_child (with_status_cell s p v) p (powered v)) p (powered v) ≡ turned_by first s p v
  unfolding turned_by when◌then◌else◌
  any_other e = rw e

  -- with the index of a ready state that brings the counts into line
  pub turned_indexed : Indexed s first → p < s.wiring.n → beq (powered (status_at s p)) (powered v) ≡ false → turned_by first s p v ≡ with_status s p v
  turned_indexed h l e =
      let r = h.ready in
      let from = index_first (listed h) p l in
      let to = index_next (listed h) p l in
      let t = shift_child (with_status_cell s p v) p (powered v) in
      sym (any_other e) ∙ sym (links_within first t p (powered v) (rw to (order.next_fits (listed h) p)))
      ∙ rw (from, to) (turned_other s p v r (row_of r p l) l e)

  -- nothing fixed changes
  abbrev Stays : State → Type 0
  Stays t = fixed t ≡ fixed s

  child_stays : (up : Bool) → Stays (shift_child (with_status_cell s p v) p up)
  unfolding shift_child
  child_stays up = by_if Stays _ _ _ (λ e. refl) (λ e. refl)

  links_stay : (t : State) (up : Bool) → fixed (shift_links_by first t p up) ≡ fixed t
  unfolding shift_links_by shift_links
  links_stay t up = by_if (λ (x : State). fixed x ≡ fixed t) _ _ _ (λ e. refl) (λ e. refl)

  pub turned_stays : Stays (turned_by first s p v)
  unfolding turned_by
  turned_stays = by_if Stays _ _ _ (λ e. refl) (λ e. links_stay _ _ ∙ child_stays _)

-- so a change of status leaves what is fixed, in any memory
pub turned_on : {p v : ℕ} {first bytes₀ words₀ bytes words : List ℕ} → Turned p v first bytes₀ words₀ bytes words
    → fixed (state_in bytes words) ≡ fixed (state_in bytes₀ words₀)
turned_on t = ap fixed t.any ∙ turned_stays _ _ _ _
