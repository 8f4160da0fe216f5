-- What a change of one column keeps of soundness. Assumes nothing.
use mathlib.Core.Path.{◌≡◌, refl}
use mathlib.Core.List.{List}
use Prim.Native.Nat.{ℕ, ◌<◌, ◌≤◌}
use native.Mathlib.Omega.{arith}
use native.Mathlib.Decide.{dec_lt}
use lib.ListN.{length, get_or, set}
use lib.Seq.{get_or-set_other}
use Rattle.model.specs.Limits.{ROWS, MAXHOLDS, MAXDEPTH, MAXERROR}
use Rattle.model.specs.State.{State, RESUMING, ACTIVE, SUSPENDING, status_at, linked_at, children_at, is_child, is_live, child_count, link_count, children_of, linked_of, with_ignore, with_holds, with_depth, with_error, with_status, with_carry, closed}
use Rattle.model.specs.WakeSet.{Needs, child, link}
use Rattle.model.specs.Requests.{suspend_test}
use Rattle.model.specs.Sound.{Column, Supply, Kept, Carried, Steady, OthersSteady, NoneOpen, CallbackRules, none_open, suspend_open, resume_open, idle_open, Sound}
use Rattle.model.proofs.Basics.{at_set, column_set, few_rows}
use Rattle.model.proofs.Counting.{child_counted, link_counted}
use Rattle.model.proofs.WakeSet.{apart}

-- all of soundness but the callback and the carried bytes
abbrev pub KeptIn : State → Type 0
KeptIn s = Kept s.wiring s.devices

-- all that p rests on is powered
abbrev pub Fed : State → ℕ → Type 0
Fed s p = (q : ℕ) → Needs s.wiring p q → ACTIVE ≤ status_at s q

-- no other device that is not suspended rests on p
abbrev pub Free : State → ℕ → Type 0
Free s p = (r : ℕ) → (r ≡ p → ⊥) → RESUMING ≤ status_at s r → Needs s.wiring r p → ⊥

-- no runtime link from a powered consumer, and no powered child that counts
pub record Alone (s : State) (p : ℕ) : Type 0 where
  pub links : linked_at s p ≡ 0
  pub children : get_or s.wiring.ignore p 0 ≡ 0 → children_at s p ≡ 0

module _ (s : State) (k : KeptIn s) where
  pub room : s.wiring.n ≤ ROWS
  room = few_rows k.table.order.devices

  -- a row that is not zero is used
  pub row_used : {most : ℕ} (col : List ℕ) → Column ROWS s.wiring.n most col → (p : ℕ) → 1 ≤ get_or col p 0 → p < s.wiring.n
  row_used col c p h = elim (dec_lt p s.wiring.n) [ yes l ↦ l | no g ↦ let z = c.unused p (omega arith) in absurd (omega arith) ]

  pub status_row : (p : ℕ) → p < s.wiring.n → p < length s.devices.status
  status_row p h = let r = room in let l = k.statuses.long in omega arith

  -- ---- the supply rule under one change of status
  supply_set : (p v : ℕ) → p < s.wiring.n → (RESUMING ≤ v → Fed s p) → (v < ACTIVE → ACTIVE ≤ status_at s p → Free s p) → Supply s.wiring (set s.devices.status p v)
  supply_set p v hp up off =
      record {
        rests =
            λ a q h d.
            at_set (λ a x. 1 ≤ x → (q : ℕ) → Needs s.wiring a q → 2 ≤ get_or (set s.devices.status p v) q 0) s.devices.status p v
            (status_row p hp)
            (λ h q d. rw (get_or-set_other s.devices.status p q v 0 (apart k.table.order hp d)) (up h q d))
            (λ a ne h q d. at_set (λ q x. Needs s.wiring a q → 2 ≤ x) s.devices.status p v (status_row p hp) (λ d. here a ne h d) (λ q ne d. k.supply.rests a q h d) q d)
            a h q d;
      }
    where
      here : (a : ℕ) → (a ≡ p → ⊥) → 1 ≤ status_at s a → Needs s.wiring a p → 2 ≤ v
      here a ne h d = elim (dec_lt v 2) [ yes l ↦ absurd (off l (k.supply.rests a p h d) a ne h d) | no g ↦ omega arith ]

  -- ---- one law for each setter
  pub kept_status : (p v : ℕ) → p < s.wiring.n → v ≤ SUSPENDING → (RESUMING ≤ v → Fed s p) → (v < ACTIVE → ACTIVE ≤ status_at s p → Free s p) → KeptIn (with_status s p v)
  kept_status p v hp hv up off =
      record {
        table = k.table;
        statuses = column_set k.statuses room p v hp hv;
        holds = k.holds;
        depths = k.depths;
        errors = k.errors;
        children = refl;
        linked = refl;
        supply = supply_set p v hp up off;
      }

  pub kept_holds : (p v : ℕ) → p < s.wiring.n → v ≤ MAXHOLDS → KeptIn (with_holds s p v)
  kept_holds p v hp hv =
      record {
        table = k.table;
        statuses = k.statuses;
        holds = column_set k.holds room p v hp hv;
        depths = k.depths;
        errors = k.errors;
        children = k.children;
        linked = k.linked;
        supply = k.supply;
      }

  pub kept_depth : (p v : ℕ) → p < s.wiring.n → v ≤ MAXDEPTH → KeptIn (with_depth s p v)
  kept_depth p v hp hv =
      record {
        table = k.table;
        statuses = k.statuses;
        holds = k.holds;
        depths = column_set k.depths room p v hp hv;
        errors = k.errors;
        children = k.children;
        linked = k.linked;
        supply = k.supply;
      }

  pub kept_error : (p v : ℕ) → p < s.wiring.n → v ≤ MAXERROR → KeptIn (with_error s p v)
  kept_error p v hp hv =
      record {
        table = k.table;
        statuses = k.statuses;
        holds = k.holds;
        depths = k.depths;
        errors = column_set k.errors room p v hp hv;
        children = k.children;
        linked = k.linked;
        supply = k.supply;
      }

  -- the counts do not read who ignores whom
  pub kept_ignore : (p v : ℕ) → p < s.wiring.n → v ≤ 1 → Supply (with_ignore s p v).wiring s.devices.status → KeptIn (with_ignore s p v)
  unfolding children_of child_count is_child linked_of link_count is_live
  kept_ignore p v hp hv u =
      let t = k.table in
      let o = t.order in
      record {
        table =
            record {
              some = t.some;
              order = record { devices = o.devices; links = o.links; parents = o.parents; consumers = o.consumers; suppliers = o.suppliers; ascending = o.ascending };
              parent_rows = t.parent_rows;
              ignore_rows = column_set t.ignore_rows room p v hp hv;
              consumer_rows = t.consumer_rows;
              supplier_rows = t.supplier_rows;
              flag_rows = t.flag_rows;
            };
        statuses = k.statuses;
        holds = k.holds;
        depths = k.depths;
        errors = k.errors;
        children = k.children;
        linked = k.linked;
        supply = u;
      }

  -- ---- who rests on p is counted: where the counts are 0, p is free
  pub alone_free : (p : ℕ) → p < s.wiring.n → OthersSteady s p → Alone s p → Free s p
  alone_free p hp st a r ne h d = counted d
    where
      on : 2 ≤ status_at s r
      on = let z = (st r ne).0 in omega arith

      low : p < ROWS
      low = let z = room in omega arith

      counted : Needs s.wiring r p → ⊥
      counted (child e some ig) =
          let c : 1 ≤ children_at s p = rw k.children (child_counted s.wiring s.devices.status r p (row_used s.devices.status k.statuses r h) e some low on) in
          let z = a.children ig in
          omega arith
      counted (link i l c e f) =
          let z : 1 ≤ linked_at s p = rw k.linked (link_counted s.wiring s.devices.status i r p l c e f low on) in
          let y = a.links in
          omega arith

-- ---- the callback and the carried bytes
-- the callback's rules do not read the carried bytes
pub callback_carry : {s : State} (bytes : List ℕ) (used : ℕ) → CallbackRules s → CallbackRules (with_carry s bytes used)
unfolding suspend_test
callback_carry b u (none_open o) = none_open o
callback_carry b u (suspend_open o) = suspend_open (record { kind = o.kind; asked = o.asked; target = o.target; status = o.status; steady = o.steady; passes = o.passes })
callback_carry b u (resume_open o) = resume_open (record { kind = o.kind; target = o.target; status = o.status; steady = o.steady; asked = o.asked; clear = o.clear })
callback_carry b u (idle_open o) = idle_open (record { kind = o.kind; asked = o.asked; target = o.target; status = o.status; steady = o.steady; passes = o.passes })

pub none_open_lem : {s : State} → CallbackRules s → s.callback.kind ≡ 0 → NoneOpen s.callback s.devices.status
none_open_lem (none_open o) e = o
none_open_lem (suspend_open o) e = let z = o.kind in absurd (omega arith)
none_open_lem (resume_open o) e = let z = o.kind in absurd (omega arith)
none_open_lem (idle_open o) e = let z = o.kind in absurd (omega arith)

pub quiet : (s : State) → KeptIn s → Carried s.carry → NoneOpen s.callback s.devices.status → Sound s
quiet s k c o = record { kept = k; carried = c; callback = none_open o }

-- the callback closed, with no device in change
pub closing : (s : State) → KeptIn s → Carried s.carry → ((q : ℕ) → Steady (status_at s q)) → Sound (closed s)
closing s k c st = quiet (closed s) k c (record { kind = refl; asked = refl; target = refl; steady = st })
