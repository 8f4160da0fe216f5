-- Laws of marking by recursion: what each step adds to the marks. A device's set is itself, its parent's set and its suppliers' sets;
-- marks stay closed under what a device rests on, so a marked device needs no second visit. Assumes nothing.
use mathlib.Core.Path.{◌≡◌, refl, sym, ◌∙◌, subst}
use mathlib.Core.Bool.{Bool, true, false}
use mathlib.Core.List.{List, []}
use mathlib.Core.Logic.{◌⊎◌, inl, inr, ⊎_elim}
use Prim.Native.Nat.{ℕ, ◌+◌, ◌<◌, ◌≤◌}
use native.Mathlib.Omega.{arith}
use native.Mathlib.Nat.{eq-or-lt_of_le, le_refl}
use native.Mathlib.Decide.{ℕ_discrete}
use lib.ListN.{length, get_or, set, replicate, length-set, length-replicate}
use lib.Seq.{get_or-set_same, get_or-set_other}
use Rattle.model.specs.Limits.{LINKS, ROWS, NONE}
use Rattle.model.specs.Table.{Wiring}
use Rattle.model.specs.State.{State, ACTIVE, status_at}
use Rattle.model.specs.WakeSet.{Sleeping, Needs, Falls, here, down_to, On}
use Rattle.model.proofs.Basics.{never, none_rows}
use Rattle.model.proofs.WakeSet.{none_on}
use Rattle.memory.specs.Layout.{state_in}
use Rattle.links.specs.Firsts.{Listed}
use Rattle.wake_rules.specs.Rests.{on_parent, on_supplier, sleeping_parent, sleeping_supplier}
use Rattle.wake_rules.proofs.Resting.{lower_parent, lower_supplier, parent_tests, supplier_tests, parent_needs}
use Rattle.wakeset.specs.Marks.{IsWakeSet}
use Rattle.wakeset.proofs.Resting.{end_fits, link_needs, needs_tests}
use Rattle.wakeset.proofs.Members.{marks_are}
use Rattle.wakeset_recursion.specs.Recursion.{falls_from, FromLinks, Joined, Markable, Marks}

-- ---- the set of a device, from its first step
front : {w : Wiring} {status : List ℕ} {p r q : ℕ} → Sleeping status p → Needs w p r → r < p → Falls w status r q → Falls w status p q
front s d l (here s') = down_to (here s) d l s'
front s d l (down_to i d' l' s') = down_to (front s d l i) d' l' s'

split : {w : Wiring} {status : List ℕ} {p q : ℕ} → Falls w status p q → (q ≡ p) ⊎ ((r : ℕ) × Needs w p r × (r < p) × Falls w status r q)
split (here s) = inl refl
split {w} (down_to {p = m} {q = q} i d l s) =
    ⊎_elim (λ e. inr (q, subst (λ (k : ℕ). Needs w k q) e d, (rw e at l), here s)) (λ z. inr (z.0, z.1, z.2, down_to z.3 d l s)) (split i)

-- a powered device's set is empty
target_asleep : {w : Wiring} {status : List ℕ} {p q : ℕ} → Falls w status p q → Sleeping status p
target_asleep (here s) = s
target_asleep (down_to i d l s) = target_asleep i

-- ---- the sets that a device's set is made of
-- q is reached through p's parent, which counts its children
pub record FromParent (p : ℕ) (s : State) (q : ℕ) : Type 0 where
  pub rests : on_parent s.wiring p ≡ true
  pub falls : falls_from (get_or s.wiring.parent p 0) s q

-- q is reached through p's supplier by link i
pub record AtLink (p i : ℕ) (s : State) (q : ℕ) : Type 0 where
  pub leads : on_supplier s.wiring p i ≡ true
  pub falls : falls_from (get_or s.wiring.supplier i 0) s q

-- such a set has, with each device, the lower sleeping ones that it rests on
abbrev Shut : State → (ℕ → Type 0) → Type 0
Shut s P = (p q : ℕ) → P p → Needs s.wiring p q → q < p → Sleeping s.devices.status q → P q

parent_shut : {t : ℕ} (s : State) → Shut s (FromParent t s)
parent_shut s p q f d l z = record { rests = f.rests; falls = down_to f.falls d l z }

link_shut : {t i : ℕ} (s : State) → Shut s (AtLink t i s)
link_shut s p q f d l z = record { leads = f.leads; falls = down_to f.falls d l z }

-- the parent's set, the suppliers' sets and the device are the device's set
module _ {s : State} {first : List ℕ} (h : Listed s.wiring first) (p : ℕ) (few : p ≤ NONE) (z : Sleeping s.devices.status p) where
  whole_to : (q : ℕ) → (FromParent p s q ⊎ FromLinks first p (get_or first p 0) s q) ⊎ (q ≡ p) → falls_from p s q
  whole_to q =
      ⊎_elim
      (⊎_elim
      (λ f. front z (parent_needs _ p few f.rests) (lower_parent _ p f.rests) f.falls)
      (λ f. front z (link_needs h p few f.at f.from f.below f.leads) (lower_supplier _ p f.at f.leads) f.falls))
      (λ e. rw e (here z))

  by_first : (q r : ℕ) → Needs s.wiring p r → r < p → falls_from r s q → FromParent p s q ⊎ FromLinks first p (get_or first p 0) s q
  by_first q r d b i =
      ⊎_elim (λ y. inl (record { rests = y.1; falls = rw y.0 at i }))
      (λ y. inr (record { at = y.0; from = y.1; below = y.2; leads = y.4; falls = rw y.3 at i }))
      (needs_tests h p few d b)

  whole_from : (q : ℕ) → falls_from p s q → (FromParent p s q ⊎ FromLinks first p (get_or first p 0) s q) ⊎ (q ≡ p)
  whole_from q i = ⊎_elim (λ e. inr e) (λ y. inl (by_first q y.0 y.1 y.2 y.3)) (split i)

-- link k, then the others
module _ {first : List ℕ} {p : ℕ} (k : ℕ) (b : k < get_or first (p + 1) 0) {s : State} where
  links_to : (q : ℕ) → AtLink p k s q ⊎ FromLinks first p (k + 1) s q → FromLinks first p k s q
  links_to q =
      ⊎_elim (λ f. record { at = k; from = le_refl k; below = b; leads = f.leads; falls = f.falls })
      (λ f. record { at = f.at; from = omega (arith, f.from); below = f.below; leads = f.leads; falls = f.falls })

  links_from_lem : (q : ℕ) → FromLinks first p k s q → AtLink p k s q ⊎ FromLinks first p (k + 1) s q
  links_from_lem q f =
      ⊎_elim (λ e. inl (record { leads = rw (← e) at f.leads; falls = rw (← e) at f.falls }))
      (λ l. inr (record { at = f.at; from = omega (arith, l); below = f.below; leads = f.leads; falls = f.falls }))
      (eq-or-lt_of_le f.from)

-- ---- what is joined to the marks
-- the same set under another name
joined_as : {P Q : ℕ → Type 0} {a b : List Bool} → ((q : ℕ) → P q → Q q) → ((q : ℕ) → Q q → P q) → Joined P a b → Joined Q a b
joined_as f g j = record { kept = j.kept; has = λ q m. j.has q (g q m); only = λ q m. ⊎_elim (λ o. inl o) (λ o. inr (f q o)) (j.only q m) }

-- one set after another
joined_then : {P Q : ℕ → Type 0} {a b c : List Bool} → Joined P a b → Joined Q b c → Joined (λ q. P q ⊎ Q q) a c
joined_then j k =
    record {
      kept = λ q m. k.kept q (j.kept q m);
      has = λ q. ⊎_elim (λ m. k.kept q (j.has q m)) (λ m. k.has q m);
      only = λ q m. ⊎_elim (λ o. ⊎_elim (λ n. inl n) (λ n. inr (inl n)) (j.only q o)) (λ o. inr (inr o)) (k.only q m);
    }

-- a store of a mark joins one device
set_only : (ms : List Bool) (p q : ℕ) → On (set ms p true) q → On ms q ⊎ (q ≡ p)
set_only ms p q m = elim (ℕ_discrete q p) [ yes e ↦ inr e | no ne ↦ inl (sym (get_or-set_other ms p q true false ne) ∙ m) ]

joined_set : (ms : List Bool) (p : ℕ) → p < length ms → Joined (λ q. q ≡ p) ms (set ms p true)
joined_set ms p l =
    record {
      kept = λ q m. elim (ℕ_discrete q p) [ yes e ↦ rw e (get_or-set_same ms p true false l) | no ne ↦ get_or-set_other ms p q true false ne ∙ m ];
      has = λ q e. rw e (get_or-set_same ms p true false l);
      only = set_only ms p;
    }

-- marks stay ready
ready_joined : {s : State} {first : List ℕ} {P : ℕ → Type 0} {a b : List Bool} → Shut s P → length b ≡ length a → Joined P a b → Markable s first a → Markable s first b
ready_joined shut long j r =
    record {
      listed = r.listed;
      long = long ∙ r.long;
      closed = λ p q h d l s. ⊎_elim (λ m. j.kept q (r.closed p q m d l s)) (λ m. j.has q (shut p q m d l s)) (j.only p h);
    }

-- a marked device has all of its set marked
pub closed_has : {s : State} {first : List ℕ} {ms : List Bool} {p q : ℕ} → Markable s first ms → On ms p → falls_from p s q → On ms q
closed_has r h (here s) = h
closed_has r h (down_to {p = p} {q = q} i d l s) = r.closed p q (closed_has r h i) d l s

-- ---- the device r that a call goes to: lower than p, and asleep
module _ (bytes : List ℕ) (p : ℕ) {r : ℕ} (e : (words : List ℕ) → r ≡ get_or (state_in bytes words).wiring.parent p 0)
    (t : (words : List ℕ) → sleeping_parent (state_in bytes words) p ≡ true) where
  pub parent_lower : r < p
  parent_lower = rw (e []) (lower_parent _ p ((parent_tests (state_in bytes []) p).0 (t [])).0)

  pub parent_asleep : (words : List ℕ) → status_at (state_in bytes words) r < ACTIVE
  parent_asleep words = rw (e words) ((parent_tests (state_in bytes words) p).0 (t words)).1

module _ (bytes : List ℕ) (p k : ℕ) {r : ℕ} (e : (words : List ℕ) → r ≡ get_or (state_in bytes words).wiring.supplier k 0)
    (t : (words : List ℕ) → sleeping_supplier (state_in bytes words) p k ≡ true) where
  pub supplier_lower : r < p
  supplier_lower = rw (e []) (lower_supplier _ p k ((supplier_tests (state_in bytes []) p k).0 (t [])).0)

  pub supplier_asleep : (words : List ℕ) → status_at (state_in bytes words) r < ACTIVE
  supplier_asleep words = rw (e words) ((supplier_tests (state_in bytes words) p k).0 (t words)).1

-- ---- the steps of the code
module _ {bytes first : List ℕ} {p : ℕ} where
  -- nothing new
  pub marks_same : {P : State → ℕ → Type 0} {ms : List Bool} →
      ((words : List ℕ) → Markable (state_in bytes words) first ms → (q : ℕ) → P (state_in bytes words) q → On ms q) → Marks P bytes first p ms ms
  marks_same h =
      record {
        long = refl;
        only = λ words q m. inl m;
        is = λ words r. record { kept = λ q m. m; has = h words r; only = λ q m. inl m };
      }

  -- the set of a lower device, under another name
  marks_lower : {P : State → ℕ → Type 0} {a b : List Bool} (r : ℕ) → r < p →
      ((words : List ℕ) (q : ℕ) → falls_from r (state_in bytes words) q → P (state_in bytes words) q) →
      ((words : List ℕ) (q : ℕ) → P (state_in bytes words) q → falls_from r (state_in bytes words) q) →
      Marks (falls_from r) bytes first r a b → Marks P bytes first p a b
  marks_lower r l to from m =
      record {
        long = m.long;
        only = λ words q o. ⊎_elim (λ x. inl x) (λ x. inr (record { asleep = x.asleep; within = (let z = x.within in omega arith) })) (m.only words q o);
        is = λ words z. joined_as (to words) (from words) (m.is words z);
      }

  -- one set after another
  marks_then : {P Q : State → ℕ → Type 0} {a b c : List Bool} → ((s : State) → Shut s (P s)) →
      Marks P bytes first p a b → Marks Q bytes first p b c → Marks (λ s q. P s q ⊎ Q s q) bytes first p a c
  marks_then shut m n =
      record {
        long = n.long ∙ m.long;
        only = λ words q o. ⊎_elim (m.only words q) (λ x. inr x) (n.only words q o);
        is = λ words r. let j = m.is words r in joined_then j (n.is words (ready_joined (shut (state_in bytes words)) m.long j r));
      }

  -- p does not sleep
  pub marks_powered : {ms : List Bool} → ((words : List ℕ) → ACTIVE ≤ status_at (state_in bytes words) p) → Marks (falls_from p) bytes first p ms ms
  marks_powered e = marks_same (λ words r q f. let y = e words in let z = target_asleep f in absurd (omega arith))

  -- p's parent r, taken or not: the set of a powered parent is empty
  pub parent_taken : {r : ℕ} {a b : List Bool} → ((words : List ℕ) → r ≡ get_or (state_in bytes words).wiring.parent p 0) →
      ((words : List ℕ) → sleeping_parent (state_in bytes words) p ≡ true) → Marks (falls_from r) bytes first r a b → Marks (FromParent p) bytes first p a b
  parent_taken {r} e t m =
      marks_lower r (parent_lower bytes p e t) (λ words q f. record { rests = ((parent_tests (state_in bytes words) p).0 (t words)).0; falls = rw (e words) at f })
      (λ words q f. rw (e words) f.falls) m

  pub parent_left : {ms : List Bool} → ((words : List ℕ) → sleeping_parent (state_in bytes words) p ≡ false) → Marks (FromParent p) bytes first p ms ms
  parent_left t = marks_same (λ words r q f. never ((parent_tests (state_in bytes words) p).1 (f.rests, target_asleep f.falls)) (t words))

  -- then its links, then p itself
  pub marks_whole : {a b c : List Bool} → p ≤ NONE → ((words : List ℕ) → status_at (state_in bytes words) p < ACTIVE) →
      Marks (FromParent p) bytes first p a b → Marks (FromLinks first p (get_or first p 0)) bytes first p b c →
      Marks (falls_from p) bytes first p a (set c p true)
  marks_whole {a} {b} {c} few z m n =
      let u = marks_then parent_shut m n in
      let fits : length a ≡ ROWS → p < length c = λ e. (let x = none_rows few in let y = u.long in omega arith) in
      record {
        long = length-set c p true ∙ u.long;
        only = λ words q o. ⊎_elim (u.only words q) (λ e. inr (record { asleep = rw e (z words); within = omega arith })) (set_only c p q o);
        is =
            λ words r.
            joined_as (whole_to r.listed p few (z words)) (whole_from r.listed p few (z words)) (joined_then (u.is words r) (joined_set c p (fits r.long)));
      }

  -- the links from k on: none
  pub links_past : {k : ℕ} {ms : List Bool} → p ≤ NONE → LINKS ≤ k → Marks (FromLinks first p k) bytes first p ms ms
  links_past few h = marks_same (λ words r q f. let x = f.from in let y = f.below in let z = end_fits r.listed p few in absurd (omega arith))

  pub links_none : {k : ℕ} {ms : List Bool} → get_or first (p + 1) 0 ≤ k → Marks (FromLinks first p k) bytes first p ms ms
  links_none h = marks_same (λ words r q f. let x = f.from in let y = f.below in absurd (omega arith))

  -- the supplier r by link k, taken or not: the set of a powered supplier is empty
  pub link_taken_lem : (k : ℕ) {r : ℕ} {a b : List Bool} → ((words : List ℕ) → r ≡ get_or (state_in bytes words).wiring.supplier k 0) →
      ((words : List ℕ) → sleeping_supplier (state_in bytes words) p k ≡ true) → Marks (falls_from r) bytes first r a b → Marks (AtLink p k) bytes first p a b
  link_taken_lem k {r} e t m =
      marks_lower r (supplier_lower bytes p k e t) (λ words q f. record { leads = ((supplier_tests (state_in bytes words) p k).0 (t words)).0; falls = rw (e words) at f })
      (λ words q f. rw (e words) f.falls) m

  pub link_left : {k : ℕ} {ms : List Bool} → ((words : List ℕ) → sleeping_supplier (state_in bytes words) p k ≡ false) → Marks (AtLink p k) bytes first p ms ms
  link_left {k} t = marks_same (λ words r q f. never ((supplier_tests (state_in bytes words) p k).1 (f.leads, target_asleep f.falls)) (t words))

  -- then the others
  pub marks_links : {a b c : List Bool} (k : ℕ) → k < get_or first (p + 1) 0 → Marks (AtLink p k) bytes first p a b →
      Marks (FromLinks first p (k + 1)) bytes first p b c → Marks (FromLinks first p k) bytes first p a c
  marks_links k l m n =
      let u = marks_then link_shut m n in
      record { long = u.long; only = u.only; is = λ words r. joined_as (links_to k l) (links_from_lem k l) (u.is words r) }

-- ---- the whole
-- the set joined to no marks is the wake set's
pub wake_marks_lem : {bytes first : List ℕ} {t : ℕ} {ms : List Bool} → Marks (falls_from t) bytes first t (replicate ROWS false) ms → IsWakeSet bytes first t ms
wake_marks_lem {bytes} {first} {t} m =
    record {
      only = λ words q o. ⊎_elim (λ x. absurd (none_on ROWS q x)) (λ x. x) (m.only words q o);
      is =
          λ words h l.
          let j = m.is words (unmarked (state_in bytes words) h) in
          marks_are (state_in bytes words) t _ h.order l (m.long ∙ length-replicate ROWS false)
          (λ q. (λ o. ⊎_elim (λ x. absurd (none_on ROWS q x)) (λ f. f) (j.only q o), j.has q));
    }
  where
    unmarked : (s : State) → Listed s.wiring first → Markable s first (replicate ROWS false)
    unmarked s h = record { listed = h; long = length-replicate ROWS false; closed = λ p q o. absurd (none_on ROWS p o) }
