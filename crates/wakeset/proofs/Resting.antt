-- Where the code's tests lead: to lower sleeping devices; with the index of the links, to exactly those that p rests on. Assumes nothing.
use mathlib.Core.Path.{◌≡◌, refl, sym}
use mathlib.Core.Bool.{true}
use mathlib.Core.List.{List}
use mathlib.Core.Logic.{◌⊎◌, inl, inr, ⊎_elim}
use Prim.Native.Nat.{ℕ, ◌+◌, ◌<◌, ◌≤◌}
use lib.ListN.{get_or}
use Rattle.model.specs.Limits.{LINKS, NONE}
use Rattle.model.specs.Table.{Wiring}
use Rattle.model.specs.State.{State}
use Rattle.model.specs.WakeSet.{Sleeping, Needs, child, link}
use Rattle.model.proofs.Basics.{none_rows}
use Rattle.model.proofs.Logic.{tests}
use Rattle.links.specs.Firsts.{first_link, Listed}
use Rattle.links.proofs.Order.{link_of, of_link, first_at, next_at, next_fits}
use Rattle.wake_rules.specs.Rests.{on_parent, on_supplier}
use Rattle.wake_rules.proofs.Resting.{lower_parent, lower_supplier, parent_tests, supplier_tests, parent_needs}
use Rattle.wakeset.specs.Sweep.{Follows}

-- what follows p, in any memory and with any index
pub record Lower (s : State) (p q : ℕ) : Type 0 where
  pub below : q < p
  pub asleep : Sleeping s.devices.status q

pub follows_lower : (s : State) (first : List ℕ) (p q : ℕ) → Follows s first p q → Lower s p q
follows_lower s first p q =
    ⊎_elim
    (λ f. let t = (parent_tests s p).0 f.holds in record { below = rw f.is (lower_parent s.wiring p t.0); asleep = rw f.is t.1 })
    (λ f.
    let t = (supplier_tests s p f.at).0 f.link.holds in
    record { below = rw f.link.is (lower_supplier s.wiring p f.at t.0); asleep = rw f.link.is t.1 })

-- ---- what p rests on
-- the links of p are those from its first to the next device's first
module _ {w : Wiring} {first : List ℕ} (h : Listed w first) (p : ℕ) (few : p ≤ NONE) where
  start : get_or first p 0 ≡ first_link w p
  start = rw h.index (first_at w p (none_rows few))

  end : get_or first (p + 1) 0 ≡ first_link w (p + 1)
  end = rw h.index (next_at w p (none_rows few))

  -- no index leads past the links
  pub end_fits : get_or first (p + 1) 0 ≤ LINKS
  end_fits = rw end (next_fits h p)

  -- a link that is looked at for p is p's own
  pub own_link : (i : ℕ) → get_or first p 0 ≤ i → i < get_or first (p + 1) 0 → (i < w.m) × (get_or w.consumer i 0 ≡ p)
  own_link i a b = link_of h.order p i (rw start at a) (rw end at b)

  pub link_needs : (i : ℕ) → get_or first p 0 ≤ i → i < get_or first (p + 1) 0 → on_supplier w p i ≡ true → Needs w p (get_or w.supplier i 0)
  unfolding on_supplier
  link_needs i a b e = let o = own_link i a b in link i o.0 o.1 refl (simp tests at e).1

  -- what p rests on below it is its parent, or a supplier by one of these links
  pub needs_tests : {r : ℕ} → Needs w p r → r < p →
      ((r ≡ get_or w.parent p 0) × (on_parent w p ≡ true))
      ⊎ ((i : ℕ) × (get_or first p 0 ≤ i) × (i < get_or first (p + 1) 0) × (r ≡ get_or w.supplier i 0) × (on_supplier w p i ≡ true))
  unfolding on_parent on_supplier
  needs_tests (child e ne ig) l = inl (sym e, simp tests ((rw (← e) at l), (rw (← e) at ig)))
  needs_tests (link i b c s f) l = let o = of_link h.order p i b c in inr (i, rw start o.0, rw end o.1, sym s, simp tests ((rw (← s) at l), f))

-- with the index of the links, exactly these follow p
module _ {s : State} {first : List ℕ} (h : Listed s.wiring first) (p : ℕ) (few : p ≤ NONE) where
  pub follows_needs : (q : ℕ) → Follows s first p q → Needs s.wiring p q
  follows_needs q =
      ⊎_elim (λ f. rw f.is (parent_needs s.wiring p few ((parent_tests s p).0 f.holds).0))
      (λ f. rw f.link.is (link_needs h p few f.at f.from f.below ((supplier_tests s p f.at).0 f.link.holds).0))

  pub needs_follows : (q : ℕ) → Needs s.wiring p q → q < p → Sleeping s.devices.status q → Follows s first p q
  needs_follows q d l z =
      ⊎_elim (λ y. inl (record { holds = (parent_tests s p).1 (y.1, (rw y.0 at z)); is = y.0 }))
      (λ y. inr (record { at = y.0; from = y.1; below = y.2; link = record { holds = (supplier_tests s p y.0).1 (y.4, (rw y.3 at z)); is = y.3 } }))
      (needs_tests h p few d l)
