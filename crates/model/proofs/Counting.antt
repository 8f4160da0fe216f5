-- Laws of counts and columns: the recounts of children and of links are two uses of them. Assumes nothing.
use mathlib.Core.Path.{◌≡◌, refl, ap, ap₂}
use mathlib.Core.Bool.{Bool, true, false, not}
use mathlib.Core.List.{List, ◌∷◌}
use mathlib.Core.Logic.{◌⊎◌, ⊎_elim}
use Prim.Native.Nat.{ℕ, zero, suc, ◌+◌, ◌<◌, ◌≤◌, ◌%◌}
use native.Mathlib.Omega.{arith}
use native.Mathlib.Nat.{eq-or-lt_of_le, not-suc-le-zero, le_of_suc-le-suc}
use lib.ListN.{length, get_or, set, replicate}
use lib.Seq.{get_or-set_other}
use lib.Dec.{eqb}
use borrow.Author.Tests.{eq-eqb, ne_eqb, le-leb}
use Rattle.model.specs.Limits.{ROWS, NONE}
use Rattle.model.specs.Logic.{◌and◌, bit, count, tally, column}
use Rattle.model.specs.Table.{Wiring}
use Rattle.model.specs.State.{powered, is_child, is_live, child_count, link_count, children_of, linked_of}
use Rattle.model.proofs.Basics.{and_of, at_set}

-- ---- columns
pub at_column : (f : ℕ → ℕ) (n k : ℕ) → k < n → get_or (column f n) k 0 ≡ f k
unfolding column
at_column f zero k h = absurd (not-suc-le-zero h)
at_column f (suc n) zero h = refl
at_column f (suc n) (suc k) h = at_column (λ j. f (suc j)) n k (le_of_suc-le-suc h)

pub length_column : (f : ℕ → ℕ) (n : ℕ) → length (column f n) ≡ n
unfolding column
length_column f zero = refl
length_column f (suc n) = ap suc (length_column (λ k. f (suc k)) n)

pub column_same : (f g : ℕ → ℕ) (n : ℕ) → ((k : ℕ) → f k ≡ g k) → column f n ≡ column g n
unfolding column
column_same f g zero h = refl
column_same f g (suc n) h = ap₂ (λ (x : ℕ) (l : List ℕ). x ∷ l) (h 0) (column_same (λ k. f (suc k)) (λ k. g (suc k)) n (λ k. h (suc k)))

pub column_zero : (f : ℕ → ℕ) (n : ℕ) → ((k : ℕ) → f k ≡ 0) → column f n ≡ replicate n 0
unfolding column
column_zero f zero h = refl
column_zero f (suc n) h = ap₂ (λ (x : ℕ) (l : List ℕ). x ∷ l) (h 0) (column_zero (λ k. f (suc k)) n (λ k. h (suc k)))

-- ---- counts
pub bit_low : (b : Bool) → bit b ≤ 1
bit_low true = omega arith
bit_low false = omega arith

pub count_below : (f g : ℕ → Bool) (n : ℕ) → ((k : ℕ) → k < n → f k ≡ g k) → count f n ≡ count g n
unfolding count
count_below f g zero h = refl
count_below f g (suc n) h = ap₂ (λ (a b : ℕ). a + b) (count_below f g n (λ k l. h k (omega arith))) (ap bit (h n (omega arith)))

count_has : (f : ℕ → Bool) (n i : ℕ) → i < n → f i ≡ true → 1 ≤ count f n
unfolding count
count_has f zero i l e = absurd (omega arith)
count_has f (suc n) i l e =
    let c : (i ≡ n) ⊎ (i < n) = eq-or-lt_of_le (omega arith) in
    ⊎_elim (λ h. let z : bit (f n) ≡ 1 = ap bit (rw h at e) in omega arith) (λ h. let z = count_has f n i h e in omega arith) c

pub count_low : (f : ℕ → Bool) (n : ℕ) → count f n ≤ n
unfolding count
count_low f zero = omega arith
count_low f (suc n) = let z = count_low f n in let y = bit_low (f n) in omega arith

count_none : (f : ℕ → Bool) (n : ℕ) → ((k : ℕ) → f k ≡ false) → count f n ≡ 0
unfolding count
count_none f zero h = refl
count_none f (suc n) h = rw (count_none f n h, h n)

-- two tests that differ at most at i: what one count has more is the difference there
pub count_change : (f g : ℕ → Bool) (n i : ℕ) → i < n → ((k : ℕ) → (k ≡ i → ⊥) → f k ≡ g k) → count f n + bit (g i) ≡ count g n + bit (f i)
unfolding count
count_change f g zero i l same = absurd (omega arith)
count_change f g (suc n) i l same =
    let c : (i ≡ n) ⊎ (i < n) = eq-or-lt_of_le (omega arith) in
    ⊎_elim (λ h. let z = count_below f g n (λ k b. same k (λ e. omega arith)) in rw h (omega arith))
    (λ (h : i < n). let z = count_change f g n i h same in let y = ap bit (same n (λ e. omega arith)) in omega arith)
    c

-- a tally reads its test at each number only
pub tally_same : (on on' : ℕ → Bool) (key : ℕ → ℕ) (n q : ℕ) → ((k : ℕ) → on k ≡ on' k) → tally on key n q ≡ tally on' key n q
unfolding tally
tally_same on on' key n q h = count_below _ _ n (λ k l. ap (λ (x : Bool). x and eqb (key k) q) (h k))

-- what is counted makes the tally 1 or more
pub tally_has : (on : ℕ → Bool) (key : ℕ → ℕ) (n i : ℕ) → i < n → on i ≡ true → 1 ≤ tally on key n (key i)
unfolding tally
tally_has on key n i l e = count_has _ n i l (and_of (on i) _ e (eq-eqb (key i) (key i) refl))

pub tally_none : (on : ℕ → Bool) (key : ℕ → ℕ) (n q : ℕ) → ((k : ℕ) → on k ≡ false) → tally on key n q ≡ 0
unfolding tally
tally_none on key n q h = count_none _ n (λ k. rw (h k))

-- ---- the recounts
pub long_children : (w : Wiring) (status : List ℕ) → length (children_of w status) ≡ ROWS
unfolding children_of
long_children w status = length_column _ ROWS

pub long_linked : (w : Wiring) (status : List ℕ) → length (linked_of w status) ≡ ROWS
unfolding linked_of
long_linked w status = length_column _ ROWS

pub at_linked : (w : Wiring) (status : List ℕ) (q : ℕ) → q < ROWS → get_or (linked_of w status) q 0 ≡ link_count w status q
unfolding linked_of
at_linked w status q h = at_column (link_count w status) ROWS q h

-- a change of status that leaves what is powered leaves the recounts
module _ (w : Wiring) (status : List ℕ) (p v : ℕ) (h : p < length status) (e : powered v ≡ powered (get_or status p 0)) where
  same_power : (q : ℕ) → powered (get_or (set status p v) q 0) ≡ powered (get_or status q 0)
  same_power = at_set (λ q x. powered x ≡ powered (get_or status q 0)) status p v h e (λ q ne. refl)

  pub same_children : children_of w (set status p v) ≡ children_of w status
  unfolding children_of child_count is_child
  same_children = column_same _ _ ROWS (λ q. tally_same _ _ _ w.n q (λ k. ap (λ (x : Bool). x and not (eqb (get_or w.parent k 0) NONE)) (same_power k)))

  pub same_linked : linked_of w (set status p v) ≡ linked_of w status
  unfolding linked_of link_count is_live
  same_linked = column_same _ _ ROWS (λ q. tally_same _ _ _ w.m q (λ k. ap (λ (x : Bool). x and eqb (get_or w.flags k 0 % 2) 1) (same_power (get_or w.consumer k 0))))

-- a powered child is counted, and so is a runtime link of a powered consumer
pub child_counted :
    (w : Wiring) (status : List ℕ) (k q : ℕ) → k < w.n → get_or w.parent k 0 ≡ q
    → (q ≡ NONE → ⊥) → q < ROWS → 2 ≤ get_or status k 0 → 1 ≤ get_or (children_of w status) q 0
unfolding children_of child_count is_child
child_counted w status k q l e ne h u =
    rw (at_column (child_count w status) ROWS q h, ← e)
    (tally_has (is_child w status) (λ j. get_or w.parent j 0) w.n k l (and_of _ _ (le-leb _ _ u) (rw (e, ne_eqb q NONE ne))))

pub link_counted :
    (w : Wiring) (status : List ℕ) (i p q : ℕ) → i < w.m → get_or w.consumer i 0 ≡ p → get_or w.supplier i 0 ≡ q
    → get_or w.flags i 0 % 2 ≡ 1 → q < ROWS → 2 ≤ get_or status p 0 → 1 ≤ get_or (linked_of w status) q 0
unfolding linked_of link_count is_live
link_counted w status i p q l c e f h u =
    rw (at_column (link_count w status) ROWS q h, ← e)
    (tally_has (is_live w status) (λ j. get_or w.supplier j 0) w.m i l (and_of _ _ (rw c (le-leb _ _ u)) (eq-eqb _ _ f)))

-- a change of the status of p changes the child count of its parent alone, by what p counts there
pub child_change :
    (w : Wiring) (status : List ℕ) (p v q : ℕ) → p < w.n
    → child_count w (set status p v) q + bit (is_child w status p and eqb (get_or w.parent p 0) q)
    ≡ child_count w status q + bit (is_child w (set status p v) p and eqb (get_or w.parent p 0) q)
unfolding child_count tally is_child
child_change w status p v q l = count_change _ _ w.n p l (λ k ne. rw (get_or-set_other status p k v 0 ne))
