-- Laws of counts that follow a change: at one number, over all numbers, and of one device's status. Assumes nothing.
use mathlib.Core.Path.{◌≡◌, refl, sym, ◌∙◌, ap}
use mathlib.Core.Bool.{Bool, true, false, not, beq}
use mathlib.Core.List.{List}
use Prim.Native.Nat.{ℕ, ◌+◌, ◌<◌, ◌≤◌, ◌%◌}
use native.Mathlib.Omega.{arith}
use native.Mathlib.Decide.{ℕ_discrete}
use lib.ListN.{length, get_or, set, length-set}
use lib.Seq.{get_or-set_same, get_or-set_other, ext_get_or}
use lib.Dec.{eqb, ltb}
use borrow.Author.Tests.{eq-eqb, ne_eqb, eqb-true, lt-ltb, ltb-true, ltb-false}
use Rattle.model.specs.Limits.{ROWS}
use Rattle.model.specs.Logic.{when◌then◌else◌, ◌and◌, bit, tally, column}
use Rattle.model.specs.Table.{Wiring}
use Rattle.model.specs.State.{powered, is_child, is_live, child_count, link_count, children_of, linked_of}
use Rattle.model.proofs.Basics.{and_parts, and_of, by_if}
use Rattle.model.proofs.Logic.{tests}
use Rattle.model.proofs.Counting.{at_column, length_column, column_same, tally_same, count_below, count_low, count_change}
use Rattle.counts.specs.Shifts.{next, only, has_parent, runtime_of, Turns, Follows}

-- ---- tallies
tally_low : (f : ℕ → Bool) (key : ℕ → ℕ) (n q : ℕ) → tally f key n q ≤ n
unfolding tally
tally_low f key n q = count_low _ n

-- a tally reads its test below n only
tally_below : (f g : ℕ → Bool) (key : ℕ → ℕ) (n q : ℕ) → ((k : ℕ) → k < n → f k ≡ g k) → tally f key n q ≡ tally g key n q
unfolding tally
tally_below f g key n q h = count_below _ _ n (λ k l. ap (λ (x : Bool). x and eqb (key k) q) (h k l))

-- ---- a change at one number
-- f and g agree but at i, which turns
module _ (f g : ℕ → Bool) (key : ℕ → ℕ) (n i : ℕ) (up : Bool) (l : i < n) (same : (k : ℕ) → (k ≡ i → ⊥) → f k ≡ g k) (from : f i ≡ not up) (to : g i ≡ up) where
  change : (q : ℕ) → tally f key n q + bit (up and eqb (key i) q) ≡ tally g key n q + bit (not up and eqb (key i) q)
  unfolding tally
  change q = rw (from, to) at (count_change (λ k. f k and eqb (key k) q) (λ k. g k and eqb (key k) q) n i l (λ k ne. ap (λ (x : Bool). x and eqb (key k) q) (same k ne)))

  -- the count at i's key is the next one, and the others stay
  tally_key : tally g key n (key i) ≡ next up (tally f key n (key i))
  unfolding next when◌then◌else◌
  tally_key = go up (rw (eq-eqb (key i) (key i) refl) at (change (key i)))
    where
      go : (u : Bool) → tally f key n (key i) + bit (u and true) ≡ tally g key n (key i) + bit (not u and true) → tally g key n (key i) ≡ next u (tally f key n (key i))
      go true e = omega arith
      go false e = omega arith

  tally_other : (q : ℕ) → (q ≡ key i → ⊥) → tally g key n q ≡ tally f key n q
  tally_other q ne = go up (rw (ne_eqb (key i) q (λ e. ne (sym e))) at (change q))
    where
      go : (u : Bool) → tally f key n q + bit (u and false) ≡ tally g key n q + bit (not u and false) → tally g key n q ≡ tally f key n q
      go true e = omega arith
      go false e = omega arith

  -- so the column has one store, of the next count where that is at most n, as every count is
  column_next : (rows : ℕ) (col : List ℕ) (r : ℕ) → key i < rows → col ≡ column (tally f key n) rows →
      (next up (get_or col (key i) 0) ≤ n → r ≡ next up (get_or col (key i) 0)) → set col (key i) r ≡ column (tally g key n) rows
  column_next rows col r row e h =
      let long : length col ≡ rows = ap length e ∙ length_column (tally f key n) rows in
      let was : (q : ℕ) → q < rows → get_or col q 0 ≡ tally f key n q = λ q l. rw e (at_column (tally f key n) rows q l) in
      let new : next up (get_or col (key i) 0) ≡ tally g key n (key i) = rw (was (key i) row) (sym tally_key) in
      ext_get_or 0 (set col (key i) r) (column (tally g key n) rows) (length-set col (key i) r ∙ long ∙ sym (length_column (tally g key n) rows))
      (λ q b.
      let l : q < rows = let z = length-set col (key i) r in omega arith in
      elim (ℕ_discrete q (key i)) [
        | yes y ↦ rw (y, at_column (tally g key n) rows (key i) row, get_or-set_same col (key i) r 0 (omega arith)) (h (let z = tally_low g key n (key i) in omega arith) ∙ new)
        | no ne ↦ get_or-set_other col (key i) q r 0 ne ∙ was q l ∙ sym (tally_other q ne) ∙ sym (at_column (tally g key n) rows q l)
      ])

-- ---- a column that follows
-- nothing turns
follow_same : {t : ℕ → Bool} {up : Bool} {key : List ℕ} {n : ℕ} {col : List ℕ} → ((k : ℕ) → t k ≡ false) → Follows t up key n col col
follow_same {n = n} none = record { follows = λ f g c e. e ∙ column_same _ _ ROWS (λ q. tally_same f g _ n q (λ k. c.rest k (none k))) }

-- at most i turns: where it does, the count at its key is the next one
pub follow_one : (t : ℕ → Bool) (up : Bool) (key : List ℕ) (n i : ℕ) (col : List ℕ) (r : ℕ) → i < n → get_or key i 0 < ROWS → t i ≡ true →
    (next up (get_or col (get_or key i 0) 0) ≤ n → r ≡ next up (get_or col (get_or key i 0) 0)) → Follows (only i t) up key n col (set col (get_or key i 0) r)
unfolding only
follow_one t up key n i col r l row on h =
    let here : eqb i i and t i ≡ true = and_of _ _ (eq-eqb i i refl) on in
    record {
      follows =
          λ f g c e.
          column_next f g (λ k. get_or key k 0) n i up l (λ k ne. c.rest k (simp tests (λ z. absurd (ne z)))) (c.from i here) (c.to i here) ROWS col r row e h;
    }

pub follow_off : (t : ℕ → Bool) (up : Bool) (key : List ℕ) (n i : ℕ) (col : List ℕ) → t i ≡ false → Follows (only i t) up key n col col
unfolding only
follow_off t up key n i col off = follow_same (λ k. simp tests (λ z. rw z off))

-- the test t below i
unfoldable pub under : ℕ → (ℕ → Bool) → ℕ → Bool
under i t k = ltb k i and t k

pub under_first : (t : ℕ → Bool) (up : Bool) (key : List ℕ) (n i : ℕ) (col : List ℕ) → ((k : ℕ) → k < i → t k ≡ false) → Follows (under i t) up key n col col
unfolding under
under_first t up key n i col none = follow_same (λ k. simp tests (λ z. none k z))

-- g below i, and f from there on
unfoldable mixed : ℕ → (ℕ → Bool) → (ℕ → Bool) → ℕ → Bool
mixed i g f k = when ltb k i then g k else f k

mixed_turns : (s t : ℕ → Bool) (up : Bool) (i : ℕ) (f g : ℕ → Bool) → ((k : ℕ) → k < i → s k ≡ t k) → Turns s up f g → Turns (under i t) up f (mixed i g f)
unfolding under mixed
mixed_turns s t up i f g same c =
    record {
      from = λ k h. let z = simp tests at h in c.from k (same k z.0 ∙ z.1);
      to = λ k h. let z = simp tests at h in by_if (λ x. x ≡ up) (ltb k i) _ _ (λ y. c.to k (same k z.0 ∙ z.1)) (λ y. absurd (let u = ltb-false k i y in let o = z.0 in omega arith));
      rest = λ k h. let z = simp tests at h in by_if (λ x. f k ≡ x) (ltb k i) _ _ (λ y. let u = ltb-true k i y in c.rest k (same k u ∙ z u)) (λ y. refl);
    }

-- below i, then at i
pub under_more : (t : ℕ → Bool) (up : Bool) (key : List ℕ) (n i : ℕ) (a b c : List ℕ) → Follows (under i t) up key n a b →
    Follows (only i t) up key n b c → Follows (under (i + 1) t) up key n a c
unfolding under only mixed
under_more t up key n i a b c h k =
    record {
      follows =
          λ f g z e.
          k.follows (mixed i g f) g
          (record {
            from =
                λ j o.
                let x = and_parts _ _ o in
                let y = eqb-true j i x.0 in
                by_if (λ u. u ≡ not up) (ltb j i) _ _ (λ u. absurd (let q = ltb-true j i u in omega arith))
                (λ u. z.from j (and_of _ _ (lt-ltb j (i + 1) (omega arith)) x.1));
            to = λ j o. let x = and_parts _ _ o in let y = eqb-true j i x.0 in z.to j (and_of _ _ (lt-ltb j (i + 1) (omega arith)) x.1);
            rest = λ j o. by_if (λ u. u ≡ g j) (ltb j i) _ _ (λ u. refl) (λ u. let q = ltb-false j i u in z.rest j (simp tests (λ y. (simp tests at o) (omega arith))));
          })
          (h.follows f (mixed i g f) (mixed_turns (under (i + 1) t) t up i f g (λ j l. rw (lt-ltb j (i + 1) (omega arith))) z) e);
    }

-- below i and no further
pub under_rest : (t : ℕ → Bool) (up : Bool) (key : List ℕ) (n i : ℕ) (a b : List ℕ) → ((k : ℕ) → i ≤ k → k < n → t k ≡ false) →
    Follows (under i t) up key n a b → Follows t up key n a b
unfolding mixed when◌then◌else◌
under_rest t up key n i a b none h =
    record {
      follows =
          λ f g z e.
          let same : (k : ℕ) → k < n → mixed i g f k ≡ g k = λ k l. by_if (λ x. x ≡ g k) (ltb k i) _ _ (λ y. refl) (λ y. z.rest k (none k (ltb-false k i y) l)) in
          h.follows f (mixed i g f) (mixed_turns t t up i f g (λ k l. refl) z) e ∙ column_same _ _ ROWS (λ q. tally_below (mixed i g f) g _ n q same);
    }

-- a link of another device
pub not_of : (consumer flags : List ℕ) (p k : ℕ) → (get_or consumer k 0 ≡ p → ⊥) → runtime_of consumer flags p k ≡ false
unfolding runtime_of
not_of consumer flags p k ne = simp tests (λ e. absurd (ne e))

-- ---- the status of one device
and_on : (x y : Bool) → y ≡ true → x and y ≡ x
and_on true y e = e
and_on false y e = refl

and_off : (x y : Bool) → y ≡ false → x and y ≡ false
and_off true y e = e
and_off false y e = refl

-- what counts where its device is powered turns with p's status, where p is its device
module _ (status : List ℕ) (p v : ℕ) (l : p < length status) (turned : powered (get_or status p 0) ≡ not (powered v)) where
  status_turns : (who : ℕ → ℕ) (t : ℕ → Bool) →
      Turns (λ k. eqb (who k) p and t k) (powered v) (λ k. powered (get_or status (who k) 0) and t k) (λ k. powered (get_or (set status p v) (who k) 0) and t k)
  status_turns who t =
      record {
        from = λ k h. let x = and_parts _ _ h in and_on (powered (get_or status (who k) 0)) (t k) x.1 ∙ rw (eqb-true (who k) p x.0) turned;
        to = λ k h. let x = and_parts _ _ h in and_on (powered (get_or (set status p v) (who k) 0)) (t k) x.1 ∙ rw (eqb-true (who k) p x.0) (ap powered (get_or-set_same status p v 0 l));
        rest = λ k h. elim (ℕ_discrete (who k) p) [ yes e ↦ let x = (simp tests at h) e in and_off (powered (get_or status (who k) 0)) (t k) x ∙ sym (and_off (powered (get_or (set status p v) (who k) 0)) (t k) x) | no ne ↦ rw (get_or-set_other status p (who k) v 0 ne) ];
      }

  pub children_follow : (w : Wiring) (a b : List ℕ) → Follows (only p (has_parent w.parent)) (powered v) w.parent w.n a b →
      a ≡ children_of w status → b ≡ children_of w (set status p v)
  unfolding children_of child_count is_child only has_parent
  children_follow w a b h e = h.follows (is_child w status) (is_child w (set status p v)) (status_turns (λ k. k) (has_parent w.parent)) e

  pub linked_follow : (w : Wiring) (a b : List ℕ) → Follows (runtime_of w.consumer w.flags p) (powered v) w.supplier w.m a b →
      a ≡ linked_of w status → b ≡ linked_of w (set status p v)
  unfolding linked_of link_count is_live runtime_of
  linked_follow w a b h e = h.follows (is_live w status) (is_live w (set status p v)) (status_turns (λ k. get_or w.consumer k 0) (λ k. eqb (get_or w.flags k 0 % 2) 1)) e

pub beq_same : (a b : Bool) → beq a b ≡ true → b ≡ a
beq_same true true e = refl
beq_same true false e = e
beq_same false true e = sym e
beq_same false false e = refl

pub beq_other : (a b : Bool) → beq a b ≡ false → a ≡ not b
beq_other true true e = e
beq_other true false e = refl
beq_other false true e = refl
beq_other false false e = sym e
