-- Soundness is kept by kind 9, and by the result of a resume callback. Assumes nothing.
use mathlib.Core.Path.{◌≡◌, refl}
use mathlib.Core.Bool.{false}
use Prim.Native.Nat.{ℕ, ◌<◌, ◌≤◌}
use native.Mathlib.Omega.{arith}
use native.Mathlib.Decide.{ℕ_discrete}
use lib.ListN.{set}
use lib.Seq.{get_or-set_same, get_or-set_other}
use lib.Dec.{ltb, eqb}
use borrow.Author.Tests.{ltb-true, ltb-false, eqb-false}
use Rattle.model.specs.Limits.{MAXERROR, minus}
use Rattle.model.specs.State.{State, SUSPENDED, RESUMING, ACTIVE, status_at, error_at, depth_at, with_status, closed}
use Rattle.model.specs.WakeSet.{Sleeping, InWake, self, lowest}
use Rattle.model.specs.Requests.{barred, others_barred, ask_resume, wake}
use Rattle.model.specs.Steps.{go_on, resume_result}
use Rattle.model.specs.Sound.{Carried, Steady, ResumeOpen, resume_open, Sound}
use Rattle.model.proofs.Basics.{by_if, at_set}
use Rattle.model.proofs.Logic.{tests}
use Rattle.model.proofs.WakeSet.{member_below, member_asleep, fewer, lowest_rests, wake_iff, first_lowest, first_is}
use Rattle.model.proofs.Keeping.{KeptIn, status_row, kept_status, kept_error, none_open_lem, quiet, closing}
use Rattle.model.proofs.Holding.{Good}
use Rattle.model.proofs.Suspending.{turned}

-- no member of t's wake set has an error or is disabled
abbrev Clear : State → ℕ → Type 0
Clear s t = (q : ℕ) → InWake s.wiring s.devices.status t q → (error_at s q ≡ 0) × (depth_at s q ≡ 0)

-- the lowest member of t's wake set turns resuming
ask_resume_good :
    (s : State) → KeptIn s → Carried s.carry → ((q : ℕ) → Steady (status_at s q))
    → (t : ℕ) → t < s.wiring.n → lowest s t < s.wiring.n → Clear s t → Good (ask_resume s t)
unfolding ask_resume
ask_resume_good s k c st t l some clear =
    let m = first_lowest s k.table.order t l some in
    let x = lowest s t in
    let off = member_asleep m.member in
    let row = status_row s k x some in
    let old = s.devices.status in
    let back : (q : ℕ) → Sleeping (set old x RESUMING) q → Sleeping old q = at_set (λ q v. v < 2 → Sleeping old q) old x RESUMING row (λ z. off) (λ q ne z. z) in
    let into : (q : ℕ) → Sleeping old q → Sleeping (set old x RESUMING) q = at_set (λ q v. Sleeping old q → v < 2) old x RESUMING row (λ z. omega arith) (λ q ne z. z) in
    record {
      kept = kept_status s k x RESUMING some (omega arith) (λ z. lowest_rests k.table.order l m) (λ z y. absurd (omega arith));
      carried = c;
      callback =
          resume_open
          (record {
            kind = refl;
            target = l;
            status = get_or-set_same s.devices.status x RESUMING 0 row;
            steady = λ q ne. rw (get_or-set_other s.devices.status x q RESUMING 0 ne) (st q);
            asked = record { member = fewer into m.member; least = λ q i. m.least q (fewer back i) };
            clear = λ q i. clear q (fewer back i);
          });
    }

module _ {s : State} (h : Sound s) (o : s.callback.kind ≡ 0) (p : ℕ) (l : p < s.wiring.n) where
  pub wake_good : Good (wake s p)
  unfolding wake others_barred barred
  wake_good =
      by_if Good _ _ _ (λ e. h)
      (λ e. by_if Good _ _ _ (λ d. h)
      (λ d. by_if Good _ _ _ (λ a. h)
      (λ a. by_if Good _ _ _ (λ b. h)
      (λ b. ask_resume_good s h.kept h.carried steady p l (some a) (clear e d b)))))
    where
      steady : (q : ℕ) → Steady (status_at s q)
      steady = (none_open_lem h.callback o).steady

      some : eqb (status_at s p) ACTIVE ≡ false → lowest s p < s.wiring.n
      some a =
          let z = steady p in
          let x = h.kept.statuses.used p l in
          first_is s h.kept.table.order p l p (self (omega (arith, eqb-false)))

      clear : ltb 0 (error_at s p) ≡ false → ltb 0 (depth_at s p) ≡ false → others_barred s p ≡ false → Clear s p
      clear e d b q i =
          elim (ℕ_discrete q p) [
            | yes y ↦ rw y (omega (arith, ltb-false), omega (arith, ltb-false))
            | no ne ↦
                let f = simp tests at b in
                let z = f q (member_below h.kept.table.order l i) ((wake_iff s h.kept.table.order p l q).1 i) ne in
                (omega arith, omega arith)
          ]

module _ {s : State} (h : Sound s) (v : ℕ) where
  pub resume_result_good : (eqb v 0 ≡ false → minus v ≤ MAXERROR) → ResumeOpen s → Good (resume_result s s.callback.asked s.callback.target v)
  unfolding resume_result go_on
  resume_result_good small o =
      let p = s.callback.asked in
      by_if Good _ _ _
      (λ e. by_if Good _ _ _
      (λ f.
      ask_resume_good (closed (with_status s p ACTIVE)) woken.kept h.carried (turned h v o.steady low ACTIVE (omega arith))
      s.callback.target o.target (ltb-true _ _ f) (λ q i. o.clear q (fewer back i)))
      (λ f. woken))
      (λ e. quiet _ (kept_error (closed (with_status s p SUSPENDED)) asleep.kept p _ low (small e)) h.carried (none_open_lem asleep.callback refl))
    where
      low : s.callback.asked < s.wiring.n
      low = member_below h.kept.table.order o.target o.asked.member

      woken : Sound (closed (with_status s s.callback.asked ACTIVE))
      woken =
          let p = s.callback.asked in
          closing (with_status s p ACTIVE)
          (kept_status s h.kept p ACTIVE low (omega arith) (λ z q. h.kept.supply.rests p q (let y = o.status in omega arith))
          (λ z. absurd (omega arith)))
          h.carried (turned h v o.steady low ACTIVE (omega arith))

      asleep : Sound (closed (with_status s s.callback.asked SUSPENDED))
      asleep =
          let p = s.callback.asked in
          closing (with_status s p SUSPENDED)
          (kept_status s h.kept p SUSPENDED low (omega arith) (λ z. absurd (omega arith)) (λ z y. let x = o.status in absurd (omega arith)))
          h.carried (turned h v o.steady low SUSPENDED (omega arith))

      back : (q : ℕ) → Sleeping (set s.devices.status s.callback.asked ACTIVE) q → Sleeping s.devices.status q
      back =
          let p = s.callback.asked in
          at_set (λ q x. x < 2 → Sleeping s.devices.status q) s.devices.status p ACTIVE (status_row s h.kept p low)
          (λ z. absurd (omega arith)) (λ q ne z. z)
