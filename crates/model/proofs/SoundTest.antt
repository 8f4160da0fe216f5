-- The soundness test and the soundness facts are one, for every state whose columns have their rows. Assumes nothing.
use mathlib.Core.Path.{◌≡◌, refl, sym, ◌∙◌}
use mathlib.Core.Bool.{true}
use mathlib.Core.List.{List}
use mathlib.Core.Logic.{◌↔◌}
use Prim.Native.Nat.{ℕ, ◌<◌, ◌≤◌}
use native.Mathlib.Omega.{arith}
use native.Mathlib.Decide.{dec_lt}
use lib.ListN.{length, get_or, get_or-eq_default}
use lib.Seq.{ext_get_or}
use borrow.Author.Tests.{eqb-true, eq-eqb, ne_eqb}
use Rattle.model.specs.Limits.{LINKS, ROWS, MAXHOLDS, MAXDEPTH, MAXERROR}
use Rattle.model.specs.Logic.{when◌then◌else◌}
use Rattle.model.specs.Table.{Wiring, parent_good, ends_good}
use Rattle.model.specs.State.{State, Devices, Carry, SUSPENDED, SUSPENDING, status_at, error_at, depth_at}
use Rattle.model.specs.WakeSet.{Needs, child, link, InWake, Lowest, lowest}
use Rattle.model.specs.Requests.{barred}
use Rattle.model.specs.Sound.{Column, Ordered, TableRules, Supply, Carried, Steady, OthersSteady, CallbackRules, none_open, suspend_open, resume_open, idle_open, Sound}
use Rattle.model.specs.SoundTest.{column_test, table_test, same_test, parent_supplies, link_supplies, supply_test, kept_test, carried_test, steady_test, all_steady, others_steady, members_clear, none_test, suspend_open_test, resume_open_test, idle_open_test, callback_test, sound_test}
use Rattle.model.proofs.Basics.{by_if, never, few_rows, and_parts}
use Rattle.model.proofs.Logic.{tests}
use Rattle.model.proofs.Counting.{long_children, long_linked}
use Rattle.model.proofs.WakeSet.{member_below, lowest_unique, wake_iff, first_lowest, first_is}
use Rattle.model.proofs.Keeping.{KeptIn, row_used}

-- every column has its rows: what the type of a bench says by itself
pub record Shaped (s : State) : Type 0 where
  pub parent : length s.wiring.parent ≡ ROWS
  pub ignore : length s.wiring.ignore ≡ ROWS
  pub consumer : length s.wiring.consumer ≡ LINKS
  pub supplier : length s.wiring.supplier ≡ LINKS
  pub flags : length s.wiring.flags ≡ LINKS
  pub status : length s.devices.status ≡ ROWS
  pub holds : length s.devices.holds ≡ ROWS
  pub depth : length s.devices.depth ≡ ROWS
  pub error : length s.devices.error ≡ ROWS
  pub children : length s.devices.children ≡ ROWS
  pub linked : length s.devices.linked ≡ ROWS
  pub bytes : length s.carry.bytes ≡ 3

-- ---- columns
pub column_iff : (rows n most : ℕ) (col : List ℕ) → n ≤ rows → length col ≡ rows → (column_test rows n most col ≡ true) ↔ Column rows n most col
unfolding column_test
column_iff rows n most col h g = (
  λ e.
      let f = simp tests at e in
      record {
        long = g;
        used = λ p l. (f p (omega arith)).0 l;
        unused = λ p l. elim (dec_lt p rows) [ yes b ↦ (f p b).1 l | no b ↦ get_or-eq_default col 0 (omega arith) ];
      },
  λ c. simp tests (λ i l. (c.used i, c.unused i)),
)

same_iff : (a b : List ℕ) → length a ≡ ROWS → length b ≡ ROWS → (same_test a b ≡ true) ↔ (a ≡ b)
unfolding same_test
same_iff a b g h = (λ e. let f = simp tests at e in ext_get_or 0 a b (g ∙ sym h) (λ i l. f i (omega arith)), λ e. simp tests (λ i l. rw e))

-- ---- the table, the supply rule, the ranges and counts, the carried bytes
-- what a test that passes says of any columns, of their rows or not: devices and links are in order, and an unused device is suspended
table_ordered : (w : Wiring) → table_test w ≡ true → Ordered w
unfolding table_test parent_good ends_good
table_ordered w e =
    let (some, e1) = simp tests at e in
    let (devices, e2) = e1 in
    let (links, e3) = e2 in
    let (up, e4) = e3.1.1.1.1.1 in
    let (ends, so) = e4 in
    record { devices = devices; links = links; parents = up; consumers = λ i l. (ends i l).0; suppliers = λ i l. (ends i l).1; ascending = so }

module _ (w : Wiring) (d : Devices) (e : kept_test w d ≡ true) where
  pub kept_ordered : Ordered w
  unfolding kept_test
  kept_ordered = let z = and_parts _ _ e in table_ordered w z.0

  pub kept_unused : (p : ℕ) → w.n ≤ p → p < ROWS → get_or d.status p 0 ≡ SUSPENDED
  unfolding kept_test column_test
  kept_unused p h l = let z = and_parts (column_test ROWS w.n SUSPENDING d.status) _ (and_parts _ _ e).1 in let f = simp tests at z.0 in (f p l).1 h

module _ (s : State) (g : Shaped s) where
  table_iff : (table_test s.wiring ≡ true) ↔ TableRules s.wiring
  unfolding table_test parent_good ends_good
  table_iff = (
    λ e.
        let (some, e1) = simp tests at e in
        let (devices, e2) = e1 in
        let (links, e3) = e2 in
        let (pa, e4) = e3 in
        let (ig, e5) = e4 in
        let (co, e6) = e5 in
        let (su, e7) = e6 in
        record {
          some = some;
          order = table_ordered s.wiring e;
          parent_rows = (column_iff ROWS _ 255 _ (few_rows devices) g.parent).0 pa;
          ignore_rows = (column_iff ROWS _ 1 _ (few_rows devices) g.ignore).0 ig;
          consumer_rows = (column_iff LINKS _ 255 _ links g.consumer).0 co;
          supplier_rows = (column_iff LINKS _ 255 _ links g.supplier).0 su;
          flag_rows = (column_iff LINKS _ 3 _ links g.flags).0 e7.0;
        },
    λ t.
        let o = t.order in
        let hn = few_rows o.devices in
        let hm = o.links in
        let pa = (column_iff _ _ _ _ hn g.parent).1 t.parent_rows in
        let ig = (column_iff _ _ _ _ hn g.ignore).1 t.ignore_rows in
        let co = (column_iff _ _ _ _ hm g.consumer).1 t.consumer_rows in
        let su = (column_iff _ _ _ _ hm g.supplier).1 t.supplier_rows in
        let fl = (column_iff _ _ _ _ hm g.flags).1 t.flag_rows in
        simp tests
        (t.some, (o.devices, (o.links, (pa, (ig, (co, (su, (fl, (o.parents, (λ i l. (o.consumers i l, o.suppliers i l), o.ascending)))))))))),
  )

supply_iff : (w : Wiring) (status : List ℕ) → ((p : ℕ) → 1 ≤ get_or status p 0 → p < w.n) → (supply_test w status ≡ true) ↔ Supply w status
unfolding supply_test parent_supplies link_supplies
supply_iff w status row = (
  λ e. record { rests = go e },
  λ u.
      simp tests (
        λ p l on ne ig. u.rests p (get_or w.parent p 0) (omega arith) (child refl ne ig),
        λ i l on r. u.rests (get_or w.consumer i 0) (get_or w.supplier i 0) (omega arith) (link i l refl refl r),
      ),
)
  where
    go : supply_test w status ≡ true → (p q : ℕ) → 1 ≤ get_or status p 0 → Needs w p q → 2 ≤ get_or status q 0
    go e p q h (child c ne ig) = let f = simp tests at e in rw (← c) (f.0 p (row p h) (λ z. omega arith) (rw c ne) (rw c ig))
    go e p q h (link i l c s r) = let f = simp tests at e in rw (← s) (f.1 i l (rw c (λ z. omega arith)) r)

used : {most : ℕ} (n : ℕ) (col : List ℕ) → Column ROWS n most col → (p : ℕ) → 1 ≤ get_or col p 0 → p < n
used n col c p h = elim (dec_lt p n) [ yes l ↦ l | no g ↦ let z = c.unused p (omega arith) in absurd (omega arith) ]

module _ (s : State) (g : Shaped s) where
  pub kept_iff : (kept_test s.wiring s.devices ≡ true) ↔ KeptIn s
  unfolding kept_test
  kept_iff = (
    λ e.
        let (ta, e1) = simp tests at e in
        let (st, e2) = e1 in
        let (ho, e3) = e2 in
        let (de, e4) = e3 in
        let (er, e5) = e4 in
        let (ch, e6) = e5 in
        let (li, su) = e6 in
        let t = (table_iff s g).0 ta in
        let hn = few_rows t.order.devices in
        let sts = (column_iff ROWS s.wiring.n SUSPENDING s.devices.status hn g.status).0 st in
        record {
          table = t;
          statuses = sts;
          holds = (column_iff ROWS _ MAXHOLDS _ hn g.holds).0 ho;
          depths = (column_iff ROWS _ MAXDEPTH _ hn g.depth).0 de;
          errors = (column_iff ROWS _ MAXERROR _ hn g.error).0 er;
          children = (same_iff _ _ g.children (long_children _ _)).0 ch;
          linked = (same_iff _ _ g.linked (long_linked _ _)).0 li;
          supply = (supply_iff s.wiring s.devices.status (used s.wiring.n s.devices.status sts)).0 su;
        },
    λ k.
        let hn = few_rows k.table.order.devices in
        let st = (column_iff _ _ _ _ hn g.status).1 k.statuses in
        let ho = (column_iff _ _ _ _ hn g.holds).1 k.holds in
        let de = (column_iff _ _ _ _ hn g.depth).1 k.depths in
        let er = (column_iff _ _ _ _ hn g.error).1 k.errors in
        let ch = (same_iff _ _ g.children (long_children _ _)).1 k.children in
        let li = (same_iff _ _ g.linked (long_linked _ _)).1 k.linked in
        let su = (supply_iff s.wiring s.devices.status (used s.wiring.n s.devices.status k.statuses)).1 k.supply in
        simp tests ((table_iff s g).1 k.table, (st, (ho, (de, (er, (ch, (li, su))))))),
  )

carried_iff : (c : Carry) → length c.bytes ≡ 3 → (carried_test c ≡ true) ↔ Carried c
unfolding carried_test
carried_iff c long = (
  λ e.
      let (few, f) = simp tests at e in
      record { few = few; long = long; unused = λ i l. elim (dec_lt i 3) [ yes b ↦ f i b l | no b ↦ get_or-eq_default c.bytes 0 (omega arith) ] },
  λ c. simp tests (c.few, λ i l. c.unused i),
)

-- ---- the open callback
steady_iff : (s : State) (p : ℕ) → (steady_test s p ≡ true) ↔ Steady (status_at s p)
unfolding steady_test
steady_iff s p = (λ e. simp tests at e, λ t. simp tests t)

module _ (s : State) (k : KeptIn s) where
  -- a row that is not used is steady
  rest : (p : ℕ) → (p < s.wiring.n → Steady (status_at s p)) → Steady (status_at s p)
  rest p f = elim (dec_lt p s.wiring.n) [ yes l ↦ f l | no g ↦ let z = k.statuses.unused p (omega arith) in omega arith ]

  all_steady_iff : (all_steady s ≡ true) ↔ ((p : ℕ) → Steady (status_at s p))
  unfolding all_steady
  all_steady_iff = (λ e p. let f = simp (tests, steady_iff) at e in rest p (f p), λ t. simp (tests, steady_iff) (λ i l. t i))

  others_steady_iff : (p : ℕ) → (others_steady s p ≡ true) ↔ OthersSteady s p
  unfolding others_steady
  others_steady_iff p = (λ e q ne. let f = simp (tests, steady_iff) at e in rest q (λ l. f q l ne), λ t. simp (tests, steady_iff) (λ i l. t i))

  clear_iff : (t : ℕ) → t < s.wiring.n → (members_clear s t ≡ true) ↔ ((q : ℕ) → InWake s.wiring s.devices.status t q → (error_at s q ≡ 0) × (depth_at s q ≡ 0))
  unfolding members_clear barred
  clear_iff t l = (
    λ e q i. let f = simp tests at e in let z = f q (member_below k.table.order l i) ((wake_iff s k.table.order t l q).1 i) in (omega arith, omega arith),
    λ c. simp tests (λ i b m. let z = c i ((wake_iff s k.table.order t l i).0 m) in (omega arith, omega arith)),
  )

  lowest_iff : (t a : ℕ) → t < s.wiring.n → a < s.wiring.n → (lowest s t ≡ a) ↔ Lowest s.wiring s.devices.status t a
  lowest_iff t a l b = (
    λ e. rw e at (first_lowest s k.table.order t l (omega (arith, e))),
    λ m. lowest_unique (first_lowest s k.table.order t l (first_is s k.table.order t l a m.member)) m,
  )

  test_callback : callback_test s ≡ true → CallbackRules s
  unfolding callback_test none_test suspend_open_test resume_open_test idle_open_test
  test_callback =
      by_if (λ x. x ≡ true → CallbackRules s) _ _ _
      (λ e t.
      let (a, f) = simp tests at t in
      let (b, c) = f in
      none_open (record { kind = eqb-true _ _ e; asked = a; target = b; steady = all_steady_iff.0 c }))
      (λ e. by_if (λ x. x ≡ true → CallbackRules s) _ _ _
      (λ e t.
      let (a, f) = simp tests at t in
      let (b, g) = f in
      let (c, h) = g in
      let (d, i) = h in
      suspend_open (record { kind = eqb-true _ _ e; asked = a; target = b; status = c; steady = (others_steady_iff s.callback.asked).0 d; passes = i }))
      (λ e. by_if (λ x. x ≡ true → CallbackRules s) _ _ _
      (λ e t.
      let (a, f) = simp tests at t in
      let (b, g) = f in
      let (c, h) = g in
      let (d, i) = h in
      let row = row_used s k s.devices.status k.statuses s.callback.asked (omega arith) in
      resume_open
      (record {
        kind = eqb-true _ _ e;
        target = a;
        status = c;
        steady = (others_steady_iff s.callback.asked).0 d;
        asked = (lowest_iff s.callback.target s.callback.asked a row).0 b;
        clear = (clear_iff s.callback.target a).0 i;
      }))
      (λ e. by_if (λ x. x ≡ true → CallbackRules s) _ _ _
      (λ e t.
      let (a, f) = simp tests at t in
      let (b, g) = f in
      let (c, h) = g in
      let (d, i) = h in
      idle_open (record { kind = eqb-true _ _ e; asked = a; target = b; status = c; steady = all_steady_iff.0 d; passes = i }))
      (λ e f. never f refl))))

  callback_test_lem : CallbackRules s → callback_test s ≡ true
  unfolding callback_test none_test suspend_open_test resume_open_test idle_open_test when◌then◌else◌
  callback_test_lem (none_open o) = rw (eq-eqb s.callback.kind 0 o.kind) (simp tests (o.asked, (o.target, all_steady_iff.1 o.steady)))
  callback_test_lem (suspend_open o) =
      let z = o.kind in
      rw (ne_eqb s.callback.kind 0 (λ e. omega arith), eq-eqb s.callback.kind 1 z)
      (simp tests (o.asked, (o.target, (o.status, ((others_steady_iff s.callback.asked).1 o.steady, o.passes)))))
  callback_test_lem (resume_open o) =
      let z = o.kind in
      let y = o.status in
      let row = row_used s k s.devices.status k.statuses s.callback.asked (omega arith) in
      let least = (lowest_iff s.callback.target s.callback.asked o.target row).1 o.asked in
      let others = (others_steady_iff s.callback.asked).1 o.steady in
      let clear = (clear_iff s.callback.target o.target).1 o.clear in
      rw (ne_eqb s.callback.kind 0 (λ e. omega arith), ne_eqb s.callback.kind 1 (λ e. omega arith), eq-eqb s.callback.kind 2 z)
      (simp tests (o.target, (least, (o.status, (others, clear)))))
  callback_test_lem (idle_open o) =
      let z = o.kind in
      rw (ne_eqb s.callback.kind 0 (λ e. omega arith), ne_eqb s.callback.kind 1 (λ e. omega arith), ne_eqb s.callback.kind 2 (λ e. omega arith), eq-eqb s.callback.kind 3 z)
      (simp tests (o.asked, (o.target, (o.status, (all_steady_iff.1 o.steady, o.passes)))))

-- ---- the whole
pub sound_iff : (s : State) → Shaped s → (sound_test s ≡ true) ↔ Sound s
unfolding sound_test
sound_iff s g = (
  λ e.
      let (a, f) = simp tests at e in
      let (b, c) = f in
      let k = (kept_iff s g).0 a in
      record { kept = k; carried = (carried_iff s.carry g.bytes).0 b; callback = test_callback s k c },
  λ h. simp tests ((kept_iff s g).1 h.kept, ((carried_iff s.carry g.bytes).1 h.carried, callback_test_lem s h.kept h.callback)),
)

pub sound_shaped : {s : State} → Sound s → Shaped s
sound_shaped h =
    let k = h.kept in
    record {
      parent = k.table.parent_rows.long;
      ignore = k.table.ignore_rows.long;
      consumer = k.table.consumer_rows.long;
      supplier = k.table.supplier_rows.long;
      flags = k.table.flag_rows.long;
      status = k.statuses.long;
      holds = k.holds.long;
      depth = k.depths.long;
      error = k.errors.long;
      children = rw k.children (long_children _ _);
      linked = rw k.linked (long_linked _ _);
      bytes = h.carried.long;
    }

pub sound_tested : {s : State} → Sound s → sound_test s ≡ true
sound_tested {s} h = (sound_iff s (sound_shaped h)).1 h
