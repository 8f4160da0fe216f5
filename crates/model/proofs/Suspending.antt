-- Soundness is kept by kinds 7 and 8, and by the results of idle and suspend callbacks. Assumes nothing.
use mathlib.Core.Path.{◌≡◌, refl, sym, ◌∙◌}
use mathlib.Core.Bool.{false}
use Prim.Native.Nat.{ℕ, ◌<◌, ◌≤◌}
use native.Mathlib.Omega.{arith}
use native.Mathlib.Decide.{dec_lt}
use lib.ListN.{get_or, set}
use lib.Seq.{get_or-set_same, get_or-set_other}
use lib.Dec.{ltb, eqb}
use borrow.Author.Tests.{ltb-false, eqb-false}
use Rattle.model.specs.Limits.{MAXERROR, minus}
use Rattle.model.specs.Logic.{◌and◌}
use Rattle.model.specs.State.{State, SUSPENDED, ACTIVE, SUSPENDING, status_at, children_at, counts_children, children_of, linked_of, with_status, with_callback, closed}
use Rattle.model.specs.Requests.{suspend_test, ask_suspend, idle, suspend}
use Rattle.model.specs.Steps.{idle_result, suspend_result}
use Rattle.model.specs.Sound.{Carried, Steady, OthersSteady, SuspendOpen, IdleOpen, suspend_open, idle_open, Sound}
use Rattle.model.proofs.Basics.{by_if, at_set}
use Rattle.model.proofs.Logic.{tests}
use Rattle.model.proofs.Counting.{same_children, same_linked}
use Rattle.model.proofs.Keeping.{KeptIn, Alone, status_row, kept_status, kept_error, alone_free, none_open_lem, quiet, closing}
use Rattle.model.proofs.Holding.{Good}

-- no powered child counts
pub childless : (s : State) (p : ℕ) → ltb 0 (children_at s p) and counts_children s p ≡ false → get_or s.wiring.ignore p 0 ≡ 0 → children_at s p ≡ 0
childless s p c g = elim (dec_lt 0 (children_at s p)) [ yes l ↦ absurd ((simp tests at c) l g) | no n ↦ omega arith ]

-- who passes the suspend test is alone
pub test_alone : (s : State) (p : ℕ) → suspend_test s p ≡ 0 → Alone s p
unfolding suspend_test
test_alone s p =
    by_if (λ x. x ≡ 0 → Alone s p) _ _ _ (λ e f. absurd (omega arith))
    (λ e. by_if (λ x. x ≡ 0 → Alone s p) _ _ _ (λ e f. absurd (omega arith))
    (λ d. by_if (λ x. x ≡ 0 → Alone s p) _ _ _ (λ e f. absurd (omega arith))
    (λ u. by_if (λ x. x ≡ 0 → Alone s p) _ _ _ (λ e f. absurd (omega arith))
    (λ c f. record { links = omega (arith, ltb-false); children = childless s p c }))))

-- the suspend test does not read the callback, and reads the status through the counts only
test_open : (s : State) (kind asked target p : ℕ) → suspend_test (with_callback s kind asked target) p ≡ suspend_test s p
unfolding suspend_test
test_open s kind asked target p = refl

test_counts :
    (s : State) (p q v : ℕ) → linked_of s.wiring (set s.devices.status q v) ≡ s.devices.linked
    → children_of s.wiring (set s.devices.status q v) ≡ s.devices.children → suspend_test (with_status s q v) p ≡ suspend_test s p
unfolding suspend_test
test_counts s p q v e f = rw (e, f)

-- an active device that passes the test turns suspending
pub ask_suspend_good :
    (s : State) → KeptIn s → Carried s.carry → ((q : ℕ) → Steady (status_at s q))
    → (p : ℕ) → p < s.wiring.n → status_at s p ≡ ACTIVE → suspend_test s p ≡ 0 → Good (ask_suspend s p)
unfolding ask_suspend
ask_suspend_good s k c st p l a t =
    let row = status_row s k p l in
    let links = same_linked s.wiring s.devices.status p SUSPENDING row (rw a) ∙ sym k.linked in
    let children = same_children s.wiring s.devices.status p SUSPENDING row (rw a) ∙ sym k.children in
    record {
      kept = kept_status s k p SUSPENDING l (omega arith) (λ z q. k.supply.rests p q (omega arith)) (λ z. absurd (omega arith));
      carried = c;
      callback =
          suspend_open
          (record {
            kind = refl;
            asked = l;
            target = refl;
            status = get_or-set_same s.devices.status p SUSPENDING 0 row;
            steady = λ q ne. rw (get_or-set_other s.devices.status p q SUSPENDING 0 ne) (st q);
            passes = test_open _ 1 p p p ∙ test_counts s p p SUSPENDING links children ∙ t;
          });
    }

module _ {s : State} (h : Sound s) (o : s.callback.kind ≡ 0) (p : ℕ) (l : p < s.wiring.n) where
  steady : (q : ℕ) → Steady (status_at s q)
  steady = (none_open_lem h.callback o).steady

  pub idle_good : Good (idle s p)
  unfolding idle
  idle_good =
      by_if Good _ _ _ (λ e. h)
      (λ e. by_if Good _ _ _ (λ a. h)
      (λ a.
      record {
        kept = h.kept;
        carried = h.carried;
        callback =
            idle_open
            (record {
              kind = refl;
              asked = l;
              target = refl;
              status = simp tests at a;
              steady = steady;
              passes = test_open s 3 p p p ∙ omega (arith, ltb-false);
            });
      }))

  pub suspend_good : Good (suspend s p)
  unfolding suspend
  suspend_good =
      by_if Good _ _ _ (λ e. h)
      (λ e. by_if Good _ _ _ (λ a. h)
      (λ a.
      let z = steady p in
      let x = h.kept.statuses.used p l in
      ask_suspend_good s h.kept h.carried steady p l (omega (arith, eqb-false)) (omega (arith, ltb-false))))

-- ---- results
module _ {s : State} (h : Sound s) (v : ℕ) where
  pub idle_result_good : IdleOpen s → Good (idle_result s s.callback.asked v)
  unfolding idle_result
  idle_result_good o =
      by_if Good _ _ _
      (λ e. ask_suspend_good (closed s) h.kept h.carried o.steady s.callback.asked o.asked o.status (test_open s 0 0 0 _ ∙ o.passes))
      (λ e. closing s h.kept h.carried o.steady)

  -- the device asked takes another steady status
  pub turned : OthersSteady s s.callback.asked → s.callback.asked < s.wiring.n → (x : ℕ) → Steady x → (q : ℕ) → Steady (status_at (with_status s s.callback.asked x) q)
  turned st l x z = at_set (λ q x. Steady x) s.devices.status s.callback.asked x (status_row s h.kept s.callback.asked l) z st

  pub suspend_result_good : (eqb v 0 ≡ false → minus v ≤ MAXERROR) → SuspendOpen s → Good (suspend_result s s.callback.asked v)
  unfolding suspend_result
  suspend_result_good small o =
      let p = s.callback.asked in
      by_if Good _ _ _
      (λ e.
      let free = alone_free s h.kept p o.asked o.steady (test_alone s p o.passes) in
      closing (with_status s p SUSPENDED)
      (kept_status s h.kept p SUSPENDED o.asked (omega arith) (λ z. absurd (omega arith)) (λ z y. free))
      h.carried (turned o.steady o.asked SUSPENDED (omega arith)))
      (λ e. by_if Good _ _ _ (λ f. active)
      (λ f. quiet _ (kept_error (closed (with_status s p ACTIVE)) active.kept p _ o.asked (small e)) h.carried (none_open_lem active.callback refl)))
    where
      active : Sound (closed (with_status s s.callback.asked ACTIVE))
      active =
          let p = s.callback.asked in
          closing (with_status s p ACTIVE)
          (kept_status s h.kept p ACTIVE o.asked (omega arith) (λ z q. h.kept.supply.rests p q (let y = o.status in omega arith))
          (λ z. absurd (omega arith)))
          h.carried (turned o.steady o.asked ACTIVE (omega arith))
