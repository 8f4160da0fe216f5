-- A table that is taken leaves a sound state, and a refused one the empty bench, which is not sound. Assumes nothing.
use mathlib.Core.Path.{◌≡◌, refl, sym, ◌∙◌}
use mathlib.Core.Bool.{Bool, true, false, not}
use mathlib.Core.List.{List}
use mathlib.Core.Logic.{◌⊎◌, ⊎_elim}
use Prim.Native.Nat.{ℕ, zero, suc, ◌+◌, ◌-◌, ◌<◌, ◌≤◌}
use native.Mathlib.Omega.{arith}
use native.Mathlib.Decide.{dec_lt, ℕ_discrete}
use native.Mathlib.Nat.{eq-or-lt_of_le}
use native.Mathlib.Numerals.{add-one}
use lib.ListN.{get_or, replicate, length-replicate, get_or-eq_default}
use borrow.Author.Tests.{ltb-false, eq-eqb, ne_eqb, lt-ltb, le-ltb, not-false}
use Rattle.model.specs.Limits.{DEVICES, LINKS, ROWS, NONE}
use Rattle.model.specs.Logic.{when◌then◌else◌, first}
use Rattle.model.specs.Table.{Wiring, TableAnswer, devices_in, links_in, device_byte, link_byte, limits_good, parent_good, ends_good, before, device_good, link_fits, ascends, link_good, bad_device, bad_link, entries_answer, table_answer, cell, padded, wiring_in}
use Rattle.model.specs.State.{holds_at, is_child, is_live, child_count, link_count, children_of, linked_of, at_rest, loaded, empty_state, load_of}
use Rattle.model.specs.Sound.{Column, Ordered, TableRules, none_open, Sound}
use Rattle.model.specs.SoundTest.{table_test, kept_test, sound_test}
use Rattle.model.proofs.Basics.{by_if, first_least, few_rows, few_devices_lem}
use Rattle.model.proofs.Logic.{tests}
use Rattle.model.proofs.Counting.{at_column, length_column, column_zero, tally_none}
use Rattle.model.proofs.Running.{nothing_carried}

-- ---- columns that are filled at loading
pub at_padded : (f : ℕ → ℕ) (n rows p : ℕ) → n ≤ rows → p < n → get_or (padded f n rows) p 0 ≡ f p
unfolding padded cell when◌then◌else◌
at_padded f n rows p h l = at_column _ rows p (omega arith) ∙ (rw (lt-ltb p n l))

padded_column : (f : ℕ → ℕ) (n rows most : ℕ) → n ≤ rows → ((p : ℕ) → p < n → f p ≤ most) → Column rows n most (padded f n rows)
unfolding padded cell when◌then◌else◌
padded_column f n rows most h low =
    let long = length_column (cell f n) rows in
    record {
      long = long;
      used = λ p l. rw (at_padded f n rows p h l) (low p l);
      unused = λ p l. elim (dec_lt p rows) [ yes b ↦ at_column _ rows p b ∙ (rw (le-ltb p n l)) | no b ↦ get_or-eq_default (padded f n rows) 0 (omega arith) ];
    }

zeros : (r p : ℕ) → ◌≡◌ {A = ℕ} (get_or (replicate r 0) p 0) 0
zeros zero p = refl
zeros (suc r) zero = refl
zeros (suc r) (suc p) = zeros r p

zero_column : (rows n most : ℕ) → Column rows n most (replicate rows 0)
zero_column rows n most = record { long = length-replicate rows 0; used = λ p l. rw (zeros rows p) (omega arith); unused = λ p l. zeros rows p }

-- ---- a state at rest, over any table that keeps the rules
loaded_sound : (w : Wiring) → TableRules w → Sound (loaded w)
unfolding loaded at_rest children_of linked_of child_count link_count is_child is_live
loaded_sound w t =
    record {
      kept =
          record {
            table = t;
            statuses = zero_column ROWS w.n 3;
            holds = zero_column ROWS w.n 32767;
            depths = padded_column (λ p. 1) w.n ROWS 255 (few_rows t.order.devices) (λ p l. omega arith);
            errors = zero_column ROWS w.n 4095;
            children = sym (column_zero _ ROWS (λ q. tally_none _ _ w.n q (λ k. rw (zeros ROWS k))));
            linked = sym (column_zero _ ROWS (λ q. tally_none _ _ w.m q (λ k. rw (zeros ROWS (get_or w.consumer k 0)))));
            supply = record { rests = λ p q h d. let z = zeros ROWS p in absurd (omega arith) };
          };
      carried = nothing_carried;
      callback = none_open (record { kind = refl; asked = refl; target = refl; steady = λ p. let z = zeros ROWS p in omega arith });
    }

-- ---- a table that is taken keeps the rules
-- where the first faulty entry is past the last, every entry is good
all_good : (good : ℕ → Bool) (n : ℕ) → n ≤ first (λ p. not (good p)) n → (p : ℕ) → p < n → good p ≡ true
all_good good n h p l = go (good p) refl
  where
    go : (x : Bool) → good p ≡ x → good p ≡ true
    go true e = e
    go false e = let z = first_least (λ p. not (good p)) n p (rw e) in absurd (omega arith)

-- what the tests tell of one entry
device_facts : (t : List ℕ) (p : ℕ) → device_good t p ≡ true → ((device_byte t 0 p ≡ NONE → ⊥) → device_byte t 0 p < p) × (device_byte t 1 p ≤ 1)
unfolding device_good parent_good
device_facts t p e = simp tests at e

pub record LinkFacts (t : List ℕ) (i : ℕ) : Type 0 where
  pub consumer : link_byte t 0 i < devices_in t
  pub supplier : link_byte t 1 i < link_byte t 0 i
  pub flags : link_byte t 2 i ≤ 3
  pub ascend : ascends t i ≡ true

link_facts : (t : List ℕ) (i : ℕ) → link_good t i ≡ true → LinkFacts t i
unfolding link_good link_fits ends_good
link_facts t i e = let f = simp tests at e in record { consumer = f.0.0.0; supplier = f.0.0.1; flags = f.0.1; ascend = f.1 }

next_ascends : (t : List ℕ) (i : ℕ) → ascends t (i + 1) ≡ true → before (link_byte t 0 i) (link_byte t 1 i) (link_byte t 0 (i + 1)) (link_byte t 1 (i + 1)) ≡ true
unfolding ascends
next_ascends t i e = let z : i + 1 - 1 ≡ i = omega arith in rw (ne_eqb (i + 1) 0 (λ z. omega arith), z) at e

module _ (t : List ℕ) (l : limits_good t ≡ true) (ds : (p : ℕ) → p < devices_in t → device_good t p ≡ true) (ls : (i : ℕ) → i < links_in t → link_good t i ≡ true) where
  limits : (1 ≤ devices_in t) × ((devices_in t ≤ DEVICES) × (links_in t ≤ LINKS))
  unfolding limits_good
  limits = simp tests at l

  rows : devices_in t ≤ ROWS
  rows = few_rows limits.1.0

  parent_low : (p : ℕ) → p < devices_in t → device_byte t 0 p ≤ 255
  parent_low p h = elim (ℕ_discrete (device_byte t 0 p) NONE) [ yes e ↦ omega arith | no ne ↦ let z = (device_facts t p (ds p h)).0 ne in let few = few_devices_lem limits.1.0 in omega arith ]

  -- a field of a device entry and of a link entry, as the columns have it
  device_at : (field p : ℕ) → p < devices_in t → get_or (padded (device_byte t field) (devices_in t) ROWS) p 0 ≡ device_byte t field p
  device_at field p h = at_padded (device_byte t field) (devices_in t) ROWS p rows h

  link_at : (field i : ℕ) → i < links_in t → get_or (padded (link_byte t field) (links_in t) LINKS) i 0 ≡ link_byte t field i
  link_at field i h = at_padded (link_byte t field) (links_in t) LINKS i limits.1.1 h

  fact : (i : ℕ) → i < links_in t → LinkFacts t i
  fact i h = link_facts t i (ls i h)

  table_rules : TableRules (wiring_in t)
  unfolding wiring_in
  table_rules =
      let few = few_devices_lem limits.1.0 in
      let links = limits.1.1 in
      record {
        some = limits.0;
        order =
            record {
              devices = limits.1.0;
              links = links;
              parents = λ p h. rw (device_at 0 p h) (device_facts t p (ds p h)).0;
              consumers = λ i h. rw (link_at 0 i h) (fact i h).consumer;
              suppliers = λ i h. rw (link_at 1 i h, link_at 0 i h) (fact i h).supplier;
              ascending =
                  λ i h.
                  let z : i + 1 < links_in t = omega arith in
                  rw (link_at 0 i (omega arith), link_at 1 i (omega arith), link_at 0 (i + 1) z, link_at 1 (i + 1) z)
                  (next_ascends t i (fact (i + 1) z).ascend);
            };
        parent_rows = padded_column _ _ _ 255 rows parent_low;
        ignore_rows = padded_column _ _ _ 1 rows (λ p h. (device_facts t p (ds p h)).1);
        consumer_rows = padded_column _ _ _ 255 links (λ i h. let z = (fact i h).consumer in omega arith);
        supplier_rows = padded_column _ _ _ 255 links (λ i h. let z = (fact i h).consumer in let y = (fact i h).supplier in omega arith);
        flag_rows = padded_column _ _ _ 3 links (λ i h. (fact i h).flags);
      }

taken_rules : (t : List ℕ) → (table_answer t).number ≡ 0 → TableRules (wiring_in t)
unfolding table_answer entries_answer bad_device bad_link
taken_rules t =
    by_if Rules _ _ _ (λ e z. absurd (omega arith))
    (λ e. by_if Rules _ _ _ (λ e z. absurd (omega arith))
    (λ e. by_if Rules _ _ _ (λ e z. absurd (omega arith))
    (λ e. by_if Rules _ _ _ (λ e z. absurd (omega arith))
    (λ l. by_if Rules _ _ _ (λ e z. absurd (omega arith))
    (λ e. by_if Rules _ _ _ (λ e z. absurd (omega arith))
    (λ d. by_if Rules _ _ _ (λ e z. absurd (omega arith))
    (λ k z. table_rules t (not-false _ l) (all_good (device_good t) _ (ltb-false _ _ d)) (all_good (link_good t) _ (ltb-false _ _ k)))))))))
  where
    Rules : TableAnswer → Type 0
    Rules a = a.number ≡ 0 → TableRules (wiring_in t)

-- ---- the loader
pub load_taken : (t : List ℕ) → (load_of t).answer.number ≡ 0 → (load_of t).state ≡ loaded (wiring_in t)
unfolding load_of when◌then◌else◌
load_taken t e = rw (eq-eqb _ _ e)

pub load_refused : (t : List ℕ) → ((load_of t).answer.number ≡ 0 → ⊥) → (load_of t).state ≡ empty_state
unfolding load_of when◌then◌else◌
load_refused t ne = rw (ne_eqb _ _ ne)

pub load_sound : (t : List ℕ) → (load_of t).answer.number ≡ 0 → Sound (load_of t).state
unfolding load_of
load_sound t e = rw (load_taken t e) (loaded_sound (wiring_in t) (taken_rules t e))

-- nothing is held, and nothing carried
pub load_holds : (t : List ℕ) → (load_of t).answer.number ≡ 0 → (q : ℕ) → holds_at (load_of t).state q ≡ 0
unfolding loaded at_rest
load_holds t e q = rw (load_taken t e) (zeros ROWS q)

pub load_carry : (t : List ℕ) → (load_of t).answer.number ≡ 0 → (load_of t).state.carry.used ≡ 0
unfolding loaded at_rest
load_carry t e = rw (load_taken t e)

pub empty_unsound : sound_test empty_state ≡ false
unfolding sound_test kept_test table_test empty_state at_rest
empty_unsound = refl

-- ---- no pair of consumer and supplier stands twice
before_next : (a b c a' b' c' : ℕ) → before a a' b b' ≡ true → before b b' c c' ≡ true → before a a' c c' ≡ true
unfolding before
before_next a b c a' b' c' e f =
    simp tests
    (λ h.
    elim (dec_lt a b) [
      | yes l ↦ let z = (simp tests at f) (omega arith) in absurd (omega arith)
      | no l ↦ let y = (simp tests at e) (omega arith) in let z = (simp tests at f) (omega arith) in (omega arith, omega arith)
    ])

before_differs : (a b a' b' : ℕ) → before a a' b b' ≡ true → a ≡ b → a' ≡ b' → ⊥
unfolding before
before_differs a b a' b' e f g = let z = (simp tests at e) (omega arith) in omega arith

module _ (w : Wiring) (r : Ordered w) where
  ordered : (i j : ℕ) → i < j → j < w.m → before (get_or w.consumer i 0) (get_or w.supplier i 0) (get_or w.consumer j 0) (get_or w.supplier j 0) ≡ true
  ordered i zero l h = absurd (omega arith)
  ordered i (suc j) l h =
      let n : before (get_or w.consumer j 0) (get_or w.supplier j 0) (get_or w.consumer (suc j) 0) (get_or w.supplier (suc j) 0) ≡ true = rw add-one at (r.ascending j (omega arith)) in
      let c : (i ≡ j) ⊎ (i < j) = eq-or-lt_of_le (omega arith) in
      ⊎_elim (λ e. rw e n)
      (λ (b : i < j).
      before_next (get_or w.consumer i 0) (get_or w.consumer j 0) (get_or w.consumer (suc j) 0)
      (get_or w.supplier i 0) (get_or w.supplier j 0) (get_or w.supplier (suc j) 0) (ordered i j b (omega arith)) n)
      c

  pub pairs_differ : (i j : ℕ) → i < j → j < w.m → get_or w.consumer i 0 ≡ get_or w.consumer j 0 → get_or w.supplier i 0 ≡ get_or w.supplier j 0 → ⊥
  pairs_differ i j l h = before_differs (get_or w.consumer i 0) (get_or w.consumer j 0) (get_or w.supplier i 0) (get_or w.supplier j 0) (ordered i j l h)
