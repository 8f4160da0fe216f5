-- What holds of each case of a record holds of every record. Assumes nothing.
use mathlib.Core.Path.{◌≡◌, refl}
use mathlib.Core.Bool.{true, false}
use Prim.Native.Nat.{ℕ, suc, ◌<◌, ◌≤◌}
use native.Mathlib.Omega.{arith}
use native.Mathlib.Decide.{ℕ_discrete}
use lib.Dec.{eqb}
use borrow.Author.Tests.{leb-true, leb-false, ltb-false, eqb-true, eqb-false, ne_eqb, not-false}
use Rattle.model.specs.Limits.{EINPROGRESS, minus}
use Rattle.model.specs.State.{State}
use Rattle.model.specs.Records.{Rec, Done, LAST, RESULT, finished, refused, kind_of, allowed, fault}
use Rattle.model.specs.Requests.{enable, disable, get, get_wake, put, put_idle, idle, suspend, wake, set_active, set_suspended, ignore_children}
use Rattle.model.specs.Steps.{result, request, result_step, busy, record_step}
use Rattle.model.proofs.Basics.{by_if, never, and_parts, or_none}
use Rattle.model.proofs.Values.{waits}

-- ---- kinds 1 to 12
pub record Kinds (P : ℕ → Done → Type 0) (s : State) (p v : ℕ) : Type 0 where
  pub enables : P 1 (enable s p)
  pub disables : P 2 (disable s p)
  pub gets : P 3 (get s p)
  pub get_wakes : P 4 (get_wake s p)
  pub puts : P 5 (put s p)
  pub put_idles : P 6 (put_idle s p)
  pub idles : P 7 (idle s p)
  pub suspends : P 8 (suspend s p)
  pub wakes : P 9 (wake s p)
  pub set_actives : P 10 (set_active s p)
  pub set_suspendeds : P 11 (set_suspended s p)
  pub ignores : allowed 12 v ≡ true → P 12 (ignore_children s p v)

past : (k kind : ℕ) → k ≤ kind → eqb kind k ≡ false → suc k ≤ kind
past k kind h e = omega (arith, eqb-false kind k e)

module _ (P : ℕ → Done → Type 0) {s : State} {p v : ℕ} (c : Kinds P s p v) where
  pub by_kind : (kind : ℕ) → 1 ≤ kind → kind ≤ LAST → (kind ≡ RESULT → ⊥) → allowed kind v ≡ true → P kind (request s kind p v)
  unfolding request
  by_kind kind l1 high ne a =
      by_if (P kind) _ _ _ (λ e. rw (eqb-true kind 1 e) c.enables)
      (λ e. let l2 = past 1 kind l1 e in by_if (P kind) _ _ _ (λ e. rw (eqb-true kind 2 e) c.disables)
      (λ e. let l3 = past 2 kind l2 e in by_if (P kind) _ _ _ (λ e. rw (eqb-true kind 3 e) c.gets)
      (λ e. let l4 = past 3 kind l3 e in by_if (P kind) _ _ _ (λ e. rw (eqb-true kind 4 e) c.get_wakes)
      (λ e. let l5 = past 4 kind l4 e in by_if (P kind) _ _ _ (λ e. rw (eqb-true kind 5 e) c.puts)
      (λ e. let l6 = past 5 kind l5 e in by_if (P kind) _ _ _ (λ e. rw (eqb-true kind 6 e) c.put_idles)
      (λ e. let l7 = past 6 kind l6 e in by_if (P kind) _ _ _ (λ e. rw (eqb-true kind 7 e) c.idles)
      (λ e. let l8 = past 7 kind l7 e in by_if (P kind) _ _ _ (λ e. rw (eqb-true kind 8 e) c.suspends)
      (λ e. let l9 = past 8 kind l8 e in by_if (P kind) _ _ _ (λ e. rw (eqb-true kind 9 e) c.wakes)
      (λ e. let l10 = past 9 kind l9 e in by_if (P kind) _ _ _ (λ e. rw (eqb-true kind 10 e) c.set_actives)
      (λ e. let l11 = past 10 kind l10 e in by_if (P kind) _ _ _ (λ e. rw (eqb-true kind 11 e) c.set_suspendeds)
      (λ e. let z : kind ≡ 12 = omega (arith, past 11 kind l11 e, ne) in rw z (c.ignores (rw z at a)))))))))))))

-- ---- a record without fault
pub record Formed (n : ℕ) (r : Rec) : Type 0 where
  pub low : 1 ≤ r.kind
  pub high : r.kind ≤ LAST
  pub known : r.device < n
  pub fits : allowed r.kind r.value ≡ true

pub formed : (n : ℕ) (r : Rec) → fault n r ≤ 0 → Formed n r
unfolding fault
formed n r =
    by_if Fine _ _ _ (λ e l. absurd (omega arith))
    (λ k. by_if Fine _ _ _ (λ e l. absurd (omega arith))
    (λ u. by_if Fine _ _ _ (λ e l. absurd (omega arith))
    (λ a l.
    let z = and_parts _ _ (not-false _ k) in
    record { low = leb-true 1 r.kind z.0; high = leb-true r.kind LAST z.1; known = leb-false n r.device (or_none _ _ u).0; fits = not-false _ a })))
  where
    Fine : ℕ → Type 0
    Fine f = f ≤ 0 → Formed n r

-- ---- every record
pub record Cases (P : Done → Type 0) (s : State) (r : Rec) : Type 0 where
  pub refuses : (number : ℕ) → P (refused s r.device number)
  pub results : r.kind ≡ RESULT → allowed RESULT r.value ≡ true → (s.callback.kind ≡ 0 → ⊥) → r.device ≡ s.callback.asked → P (result s r.device r.value)
  pub busy : P (finished s r.device (minus EINPROGRESS))
  pub requests : Formed s.wiring.n r → (r.kind ≡ RESULT → ⊥) → s.callback.kind ≡ 0 → P (request s r.kind r.device r.value)

-- a kind that waits is not answered unless no callback is open
not_busy : (s : State) (kind : ℕ) → (kind_of kind).always ≡ false → busy s kind ≡ false → s.callback.kind ≡ 0
unfolding busy
not_busy s kind w e =
    elim (ℕ_discrete s.callback.kind 0) [ yes y ↦ y | no n ↦ never {x = true} refl (rw (w, ne_eqb s.callback.kind 0 n) at e) ]

pub by_record : (P : Done → Type 0) {s : State} {r : Rec} → Cases P s r → P (record_step s r)
unfolding record_step result_step
by_record P {s} {r} c =
    by_if P _ _ _ (λ e. c.refuses _)
    (λ f.
    let g = formed s.wiring.n r (ltb-false 0 (fault s.wiring.n r) f) in
    by_if P _ _ _
    (λ k. by_if P _ _ _ (λ e. c.refuses 14)
    (λ o. by_if P _ _ _ (λ e. c.refuses 15)
    (λ q. let i = eqb-true r.kind RESULT k in c.results i (rw i at g.fits) (eqb-false s.callback.kind 0 o) (eqb-true r.device s.callback.asked (not-false _ q)))))
    (λ k.
    let ne = eqb-false r.kind RESULT k in
    by_if P _ _ _ (λ e. c.busy) (λ b. c.requests g ne (not_busy s r.kind (waits r.kind g.high ne) b))))
