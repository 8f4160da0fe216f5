-- Laws of the wake set. Other files cite these, never the sweep. What they need of the order of numbers is in `down` alone.
-- Assumes nothing.
use mathlib.Core.Path.{◌≡◌, refl, sym, ◌∙◌}
use mathlib.Core.Bool.{Bool, true, false}
use mathlib.Core.List.{List}
use mathlib.Core.Logic.{⊎_elim, ◌↔◌}
use Prim.Native.Nat.{ℕ, zero, suc, ◌<◌, ◌≤◌, ◌%◌}
use native.Mathlib.Omega.{arith}
use native.Mathlib.Decide.{ℕ_discrete, dec_lt}
use lib.ListN.{length, get_or, set, replicate, length-set, length-replicate, get_or-replicate, get_or-eq_default}
use lib.Seq.{get_or-set_same, get_or-set_other}
use lib.Dec.{eqb}
use borrow.Author.Tests.{ltb-true, lt-ltb, eqb-true, eq-eqb}
use Rattle.model.specs.Limits.{ROWS, NONE}
use Rattle.model.specs.Logic.{◌and◌, ◌or◌}
use Rattle.model.specs.Table.{Wiring}
use Rattle.model.specs.State.{State, ACTIVE}
use Rattle.model.specs.WakeSet.{Sleeping, Needs, child, link, InWake, self, next, Lowest, Falls, here, down_to, On, marks_child, marks_consumer, belongs, sweep, wake_marks, in_wake, lowest}
use Rattle.model.specs.Sound.{Ordered}
use Rattle.model.proofs.Basics.{and_parts, and_of, or_cases, or_left, or_right, any_find, any_of, first_passes, first_least, at_set, few_devices_lem, none_rows}

-- ---- the order: whatever a device rests on comes before it
pub down : {w : Wiring} {p q : ℕ} → Ordered w → p < w.n → Needs w p q → q < p
down {w} {p} {q} r h (child e ne ig) = rw e at (r.parents p h (λ f. ne (sym e ∙ f)))
down {w} {p} {q} r h (link i l c s f) = rw (c, s) at (r.suppliers i l)

pub within : {w : Wiring} {status : List ℕ} {t q : ℕ} → Ordered w → t < w.n → InWake w status t q → q ≤ t
within r h (self s) = omega arith
within r h (next {p = p} i d s) = let k = within r h i in omega (arith, down r (omega arith) d)

-- a device does not rest on itself
pub apart : {w : Wiring} {p q : ℕ} → Ordered w → p < w.n → Needs w p q → q ≡ p → ⊥
apart r h d e = let z = down r h d in omega arith

-- members are devices
pub member_below : {w : Wiring} {status : List ℕ} {t q : ℕ} → Ordered w → t < w.n → InWake w status t q → q < w.n
member_below r h i = let z = within r h i in omega arith

-- the lowest member rests on powered devices only
pub lowest_rests : {w : Wiring} {status : List ℕ} {t l : ℕ} → Ordered w → t < w.n → Lowest w status t l → (q : ℕ) → Needs w l q → 2 ≤ get_or status q 0
lowest_rests {w} {status} {t} {l} r ht m q d =
    let g = down r (member_below r ht m.member) d in
    elim (dec_lt (get_or status q 0) 2) [ yes s ↦ (let z = m.least q (next m.member d s) in absurd (omega arith)) | no z ↦ omega arith ]

-- ---- the set
pub lowest_unique : {w : Wiring} {status : List ℕ} {t a b : ℕ} → Lowest w status t a → Lowest w status t b → a ≡ b
lowest_unique {a = a} {b = b} m n = let x = m.least b n.member in let y = n.least a m.member in omega arith

pub member_asleep : {w : Wiring} {status : List ℕ} {t q : ℕ} → InWake w status t q → Sleeping status q
member_asleep (self s) = s
member_asleep (next i d s) = s

target_asleep : {w : Wiring} {status : List ℕ} {t q : ℕ} → InWake w status t q → Sleeping status t
target_asleep (self s) = s
target_asleep (next i d s) = target_asleep i

-- a powered device's wake set is empty
pub powered_empty : {w : Wiring} {status : List ℕ} {t q : ℕ} → 2 ≤ get_or status t 0 → InWake w status t q → ⊥
powered_empty h i = let z = target_asleep i in omega arith

-- a status change: where fewer sleep the set is smaller
pub fewer : {w : Wiring} {status status' : List ℕ} {t q : ℕ} → ((p : ℕ) → Sleeping status p → Sleeping status' p) → InWake w status t q → InWake w status' t q
fewer {t = t} h (self s) = self (h t s)
fewer {t = t} h (next {p = p} {q = q} i d s) = next (fewer h i) d (h q s)

-- where the lowest member wakes, the rest of the set remains, no more and no less
module _ {w : Wiring} {status : List ℕ} {t l : ℕ} (r : Ordered w) (ht : t < w.n) (m : Lowest w status t l) (row : l < length status) where
  remains : (q : ℕ) → InWake w status t q → (q ≡ l → ⊥) → InWake w (set status l ACTIVE) t q
  remains q i ne = stay i ne
    where
      asleep : (p : ℕ) → (p ≡ l → ⊥) → Sleeping status p → Sleeping (set status l ACTIVE) p
      asleep p ne s = rw (get_or-set_other status l p ACTIVE 0 ne) s

      stay : {q : ℕ} → InWake w status t q → (q ≡ l → ⊥) → InWake w (set status l ACTIVE) t q
      stay (self s) ne = self (asleep t ne s)
      stay (next {p = p} {q = q} i d s) ne = next (stay i (λ e. let z = down r (member_below r ht i) d in let y = m.least q (next i d s) in omega arith)) d (asleep q ne s)

  pub lowest_woken : (q : ℕ) → InWake w (set status l ACTIVE) t q ↔ (InWake w status t q × (q ≡ l → ⊥))
  lowest_woken q = (
    λ i. (
      fewer (at_set (λ q x. x < ACTIVE → Sleeping status q) status l ACTIVE row (λ z. absurd (omega arith)) (λ q ne z. z)) i,
      λ e. let z = member_asleep i in let y = get_or-set_same status l ACTIVE 0 row in absurd (omega (arith, rw e at z)),
    ),
    λ g. remains q g.0 g.1,
  )

-- ---- the marks, for any columns at all
pub falls_within : {w : Wiring} {status : List ℕ} {t q : ℕ} → Falls w status t q → q ≤ t
falls_within (here s) = omega arith
falls_within (down_to i d l s) = let k = falls_within i in omega arith

pub on_below : (ms : List Bool) (p : ℕ) → On ms p → p < length ms
on_below ms p h = elim (dec_lt p (length ms)) [ yes l ↦ l | no g ↦ let e : ◌≡◌ {A = ℕ} 0 1 = cc (get_or-eq_default ms false {n = p} (omega arith)) in absurd (omega arith) ]

-- no mark yet
pub none_on : (rows p : ℕ) → On (replicate rows false) p → ⊥
none_on rows p h = let l = on_below (replicate rows false) p h in let e : ◌≡◌ {A = ℕ} 0 1 = cc (get_or-replicate rows p false false (omega (arith, length-replicate rows false))) in absurd (omega arith)

module _ (w : Wiring) (status : List ℕ) (t : ℕ) (ms : List Bool) (q : ℕ) where
  child_needs : (q ≡ NONE → ⊥) → eqb (get_or w.ignore q 0) 0 and marks_child w ms q ≡ true → (p : ℕ) × On ms p × Needs w p q
  unfolding marks_child
  child_needs ne e =
      let u = and_parts _ _ e in
      let v = any_find _ _ u.1 in
      let z = and_parts _ _ v.2 in
      (v.0, z.1, child (eqb-true (get_or w.parent v.0 0) q z.0) ne (eqb-true (get_or w.ignore q 0) 0 u.0))

  link_needs : marks_consumer w ms q ≡ true → (p : ℕ) × On ms p × Needs w p q
  unfolding marks_consumer
  link_needs e =
      let v = any_find _ _ e in
      let z = and_parts _ _ v.2 in
      let y = and_parts _ _ z.1 in
      (get_or w.consumer v.0 0, y.1, link v.0 v.1 refl (eqb-true (get_or w.supplier v.0 0) q z.0) (eqb-true (get_or w.flags v.0 0 % 2) 1 y.0))

  -- where marks are members above q, what belongs is a member
  belongs_in : q < NONE → ((p : ℕ) → On ms p → Falls w status t p × (q < p)) → belongs w status t ms q ≡ true → Falls w status t q
  unfolding belongs
  belongs_in hq s e =
      let u = and_parts _ _ e in
      let z : Sleeping status q = ltb-true _ _ u.0 in
      ⊎_elim (λ h. rw (eqb-true q t h) (here (rw (eqb-true q t h) at z)))
      (λ g.
      ⊎_elim (λ h. let v = child_needs (omega arith) h in let x = s v.0 v.1 in down_to x.0 v.2 x.1 z)
      (λ h. let v = link_needs h in let x = s v.0 v.1 in down_to x.0 v.2 x.1 z)
      (or_cases _ _ g))
      (or_cases _ _ u.1)

-- where the members that rest on q are marked, q belongs if it is a member
needs_marks : (w : Wiring) (ms : List Bool) (p q : ℕ) → Needs w p q → (p < w.n) × On ms p → (eqb (get_or w.ignore q 0) 0 and marks_child w ms q) or marks_consumer w ms q ≡ true
unfolding marks_child marks_consumer
needs_marks w ms p q (child e ne ig) g = or_left _ _ (and_of _ _ (eq-eqb _ _ ig) (any_of _ _ p g.0 (and_of _ _ (eq-eqb _ _ e) g.1)))
needs_marks w ms p q (link k b c o r) g = or_right _ _ (any_of _ _ k b (and_of _ _ (eq-eqb _ _ o) (and_of _ _ (eq-eqb _ _ r) (rw c g.1))))

in_belongs :
    (w : Wiring) (status : List ℕ) (t : ℕ) (ms : List Bool) (q : ℕ) → ((p : ℕ) → Falls w status t p → q < p → (p < w.n) × On ms p)
    → Falls w status t q → belongs w status t ms q ≡ true
unfolding belongs
in_belongs w status t ms q f (here s) = and_of _ _ (lt-ltb _ _ s) (or_left _ _ (eq-eqb t t refl))
in_belongs w status t ms q f (down_to {p = p} i d l s) = and_of _ _ (lt-ltb _ _ s) (or_right _ _ (needs_marks w ms p q d (f p i l)))

-- the sweep has passed the devices from k on: a mark is a member passed, and a member passed is marked
record Right (w : Wiring) (status : List ℕ) (t k : ℕ) (ms : List Bool) : Type 0 where
  long : length ms ≡ ROWS
  sound : (p : ℕ) → On ms p → Falls w status t p × (k ≤ p)
  full : (p : ℕ) → k ≤ p → Falls w status t p → On ms p

module _ (w : Wiring) (status : List ℕ) (t : ℕ) (few : w.n ≤ NONE) (ht : t < w.n) where
  sweep_step : (q : ℕ) (ms : List Bool) → suc q ≤ w.n → Right w status t (suc q) ms → Right w status t q (set ms q (belongs w status t ms q))
  sweep_step q ms hq s =
      let lq : q < length ms = (let l = s.long in let z = none_rows few in omega arith) in
      let same = get_or-set_same ms q (belongs w status t ms q) false lq in
      record {
        long = length-set ms q _ ∙ s.long;
        sound =
            λ p h.
            elim (ℕ_discrete p q) [
              | yes e ↦ rw e (belongs_in w status t ms q (omega arith) s.sound (sym same ∙ (rw e at h)), omega arith)
              | no ne ↦ let x = s.sound p (sym (get_or-set_other ms q p (belongs w status t ms q) false ne) ∙ h) in (x.0, (let y = x.1 in omega arith))
            ];
        full =
            λ p h i.
            elim (ℕ_discrete p q) [
              | yes e ↦ rw e (same ∙ in_belongs w status t ms q (λ m j l. let k = falls_within j in (omega arith, s.full m l j)) (rw e at i))
              | no ne ↦ get_or-set_other ms q p (belongs w status t ms q) false ne ∙ s.full p (omega arith) i
            ];
      }

  sweep_right : (k : ℕ) (ms : List Bool) → k ≤ w.n → Right w status t k ms → Right w status t 0 (sweep w status t k ms)
  unfolding sweep
  sweep_right zero ms h s = s
  sweep_right (suc q) ms h s = sweep_right q (set ms q (belongs w status t ms q)) (omega arith) (sweep_step q ms h s)

  wake_right : Right w status t 0 (wake_marks w status t)
  unfolding wake_marks
  wake_right =
      sweep_right w.n _ (omega arith)
      (record {
        long = length-replicate ROWS false;
        sound = λ p h. absurd (none_on ROWS p h);
        full = λ p h i. let k = falls_within i in absurd (omega arith);
      })

  -- the marks are those of the falling members
  pub marks_long : length (wake_marks w status t) ≡ ROWS
  marks_long = wake_right.long

  pub falls_iff : (q : ℕ) → On (wake_marks w status t) q ↔ Falls w status t q
  falls_iff q = (λ h. (wake_right.sound q h).0, λ i. wake_right.full q (omega arith) i)

-- where the table's rules hold every member is reached so
in_falls : {w : Wiring} {status : List ℕ} {t q : ℕ} → Ordered w → t < w.n → InWake w status t q → Falls w status t q
in_falls r ht (self s) = here s
in_falls r ht (next i d s) = down_to (in_falls r ht i) d (down r (member_below r ht i) d) s

pub falls_in : {w : Wiring} {status : List ℕ} {t q : ℕ} → Falls w status t q → InWake w status t q
falls_in (here s) = self s
falls_in (down_to i d l s) = next (falls_in i) d s

-- ---- the marks are those of the least set
module _ (s : State) (r : Ordered s.wiring) (t : ℕ) (ht : t < s.wiring.n) where
  pub wake_iff : (q : ℕ) → (in_wake s t q ≡ true) ↔ InWake s.wiring s.devices.status t q
  unfolding in_wake
  wake_iff q =
      let few = few_devices_lem r.devices in
      let z = falls_iff s.wiring s.devices.status t (omega arith) ht q in
      (λ h. falls_in (z.0 h), λ i. z.1 (in_falls r ht i))

  -- the first mark is the lowest member's
  pub first_lowest : lowest s t < s.wiring.n → Lowest s.wiring s.devices.status t (lowest s t)
  unfolding lowest
  first_lowest h = record { member = (wake_iff _).0 (first_passes (in_wake s t) s.wiring.n h); least = λ q i. first_least (in_wake s t) s.wiring.n q ((wake_iff q).1 i) }

  -- and where there is a member, there is a first mark
  pub first_is : (q : ℕ) → InWake s.wiring s.devices.status t q → lowest s t < s.wiring.n
  unfolding lowest
  first_is q i = let k = member_below r ht i in let f = first_least (in_wake s t) s.wiring.n q ((wake_iff q).1 i) in omega arith
