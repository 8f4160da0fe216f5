-- The central theorem: from every sound state, every record leads to a sound state. Assumes nothing.
use mathlib.Core.Path.{◌≡◌}
use mathlib.Core.Bool.{true}
use Prim.Native.Nat.{ℕ, ◌<◌}
use native.Mathlib.Omega.{arith}
use borrow.Author.Tests.{eq-eqb, ne_eqb}
use Rattle.model.specs.Logic.{when◌then◌else◌}
use Rattle.model.specs.State.{State}
use Rattle.model.specs.Records.{Rec, RESULT, allowed}
use Rattle.model.specs.Requests.{get_wake, idle_unused, put_idle}
use Rattle.model.specs.Steps.{result, record_step}
use Rattle.model.specs.Sound.{CallbackRules, none_open, suspend_open, resume_open, idle_open, Sound}
use Rattle.model.proofs.Basics.{by_if}
use Rattle.model.proofs.Steps.{Kinds, by_kind, by_record}
use Rattle.model.proofs.Values.{flag_low, error_small}
use Rattle.model.proofs.Holding.{Good, more_held, less_held, enable_good, disable_good, get_good, put_good}
use Rattle.model.proofs.Suspending.{idle_good, suspend_good, idle_result_good, suspend_result_good}
use Rattle.model.proofs.Resuming.{wake_good, resume_result_good}
use Rattle.model.proofs.Setting.{set_active_good, set_suspended_good, ignore_children_good}

-- ---- kinds 1 to 12
module _ {s : State} (h : Sound s) (o : s.callback.kind ≡ 0) (p : ℕ) (l : p < s.wiring.n) where
  get_wake_good : Good (get_wake s p)
  unfolding get_wake
  get_wake_good = by_if Good _ _ _ (λ e. h) (λ e. wake_good (more_held h o p l e) o p l)

  put_idle_good : Good (put_idle s p)
  unfolding put_idle idle_unused
  put_idle_good = by_if Good _ _ _ (λ e. h) (λ e. by_if Good _ _ _ (λ u. less_held h o p l) (λ u. idle_good (less_held h o p l) o p l))

  kinds_good : (v : ℕ) → Kinds (λ kind. Good) s p v
  kinds_good v =
      record {
        enables = enable_good h o p l;
        disables = disable_good h o p l;
        gets = get_good h o p l;
        get_wakes = get_wake_good;
        puts = put_good h o p l;
        put_idles = put_idle_good;
        idles = idle_good h o p l;
        suspends = suspend_good h o p l;
        wakes = wake_good h o p l;
        set_actives = set_active_good h o p l;
        set_suspendeds = set_suspended_good h o p l;
        ignores = λ a. ignore_children_good h o p l v (flag_low v a);
      }

-- ---- kind 13
result_good : {s : State} → Sound s → (v : ℕ) → allowed RESULT v ≡ true → (s.callback.kind ≡ 0 → ⊥) → Good (result s s.callback.asked v)
unfolding result when◌then◌else◌
result_good {s} h v a ne = go h.callback
  where
    go : CallbackRules s → Good (result s s.callback.asked v)
    go (none_open o) = absurd (ne o.kind)
    go (suspend_open o) = rw (eq-eqb s.callback.kind 1 o.kind) (suspend_result_good h v (error_small v a) o)
    go (resume_open o) = let z = o.kind in rw (ne_eqb s.callback.kind 1 (λ e. omega arith), eq-eqb s.callback.kind 2 z) (resume_result_good h v (error_small v a) o)
    go (idle_open o) = let z = o.kind in rw (ne_eqb s.callback.kind 1 (λ e. omega arith), ne_eqb s.callback.kind 2 (λ e. omega arith)) (idle_result_good h v o)

-- ---- every record
pub record_sound : {s : State} → Sound s → (r : Rec) → Sound (record_step s r).state
record_sound {s} h r =
    by_record Good
    (record {
      refuses = λ number. h;
      results = λ k a o q. rw q (result_good h r.value a o);
      busy = h;
      requests = λ f ne o. by_kind (λ kind. Good) (kinds_good h o r.device f.known r.value) r.kind f.low f.high ne f.fits;
    })
