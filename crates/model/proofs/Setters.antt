-- A record changes the state by the setters alone: what they keep, it keeps. Assumes nothing.
use mathlib.Core.Path.{◌≡◌, refl}
use mathlib.Core.Logic.{◌⊎◌, inl, inr}
use Prim.Native.Nat.{ℕ, ◌<◌, ◌≤◌}
use native.Mathlib.Omega.{arith}
use Rattle.model.specs.State.{State, with_ignore, with_holds, with_depth, with_error, with_status, with_callback}
use Rattle.model.specs.Records.{Rec, Done}
use Rattle.model.specs.Requests.{enable, disable, get, put, ask_suspend, idle, suspend, ask_resume, wake, get_wake, idle_unused, put_idle, set_active, set_suspended, ignore_children}
use Rattle.model.specs.Steps.{idle_result, suspend_result, go_on, resume_result, result, record_step}
use Rattle.model.proofs.Basics.{by_if}
use Rattle.model.proofs.Steps.{Kinds, by_kind, by_record}

-- P is kept by each setter but that of the holds
pub record Stable (P : State → Type 0) : Type 0 where
  pub status : {s : State} (p v : ℕ) → P s → P (with_status s p v)
  pub depth : {s : State} (p v : ℕ) → P s → P (with_depth s p v)
  pub error : {s : State} (p v : ℕ) → P s → P (with_error s p v)
  pub ignore : {s : State} (p v : ℕ) → P s → P (with_ignore s p v)
  pub opened : {s : State} (k a t : ℕ) → P s → P (with_callback s k a t)

module _ (P : State → Type 0) (c : Stable P) where
  abbrev On : Done → Type 0
  On d = P d.state

  module _ {s : State} (h : P s) (p : ℕ) where
    on_suspending : P (ask_suspend s p).state
    unfolding ask_suspend
    on_suspending = c.opened _ _ _ (c.status _ _ h)

    on_resuming : P (ask_resume s p).state
    unfolding ask_resume
    on_resuming = c.opened _ _ _ (c.status _ _ h)

    pub on_idle : P (idle s p).state
    unfolding idle
    on_idle = by_if On _ _ _ (λ e. h) (λ e. by_if On _ _ _ (λ e. h) (λ e. c.opened _ _ _ h))

    pub on_wake : P (wake s p).state
    unfolding wake
    on_wake = by_if On _ _ _ (λ e. h) (λ e. by_if On _ _ _ (λ e. h) (λ e. by_if On _ _ _ (λ e. h) (λ e. by_if On _ _ _ (λ e. h) (λ e. on_resuming))))

    on_suspend : P (suspend s p).state
    unfolding suspend
    on_suspend = by_if On _ _ _ (λ e. h) (λ e. by_if On _ _ _ (λ e. h) (λ e. on_suspending))

    on_active : P (set_active s p).state
    unfolding set_active
    on_active = by_if On _ _ _ (λ e. h) (λ e. by_if On _ _ _ (λ e. h) (λ e. c.error _ _ (c.status _ _ h)))

    on_suspended : P (set_suspended s p).state
    unfolding set_suspended
    on_suspended = by_if On _ _ _ (λ e. h) (λ e. by_if On _ _ _ (λ e. h) (λ e. c.error _ _ (c.status _ _ h)))

    on_ignore : (v : ℕ) → P (ignore_children s p v).state
    unfolding ignore_children
    on_ignore v = by_if On _ _ _ (λ e. h) (λ e. c.ignore _ _ h)

    on_enable : P (enable s p).state
    unfolding enable
    on_enable = by_if On _ _ _ (λ e. h) (λ e. c.depth _ _ h)

    on_disable : P (disable s p).state
    unfolding disable
    on_disable = by_if On _ _ _ (λ e. h) (λ e. c.depth _ _ h)

    -- every kind but the gets and puts keeps it
    pub but_holds :
        (v : ℕ) (Q : ℕ → Done → Type 0) → ((kind : ℕ) → kind < 3 ⊎ 7 ≤ kind → (d : Done) → On d → Q kind d)
        → Q 3 (get s p) → Q 4 (get_wake s p) → Q 5 (put s p) → Q 6 (put_idle s p) → Kinds Q s p v
    but_holds v Q f g gw q qi =
        record {
          enables = f 1 (inl (omega arith)) _ on_enable;
          disables = f 2 (inl (omega arith)) _ on_disable;
          gets = g;
          get_wakes = gw;
          puts = q;
          put_idles = qi;
          idles = f 7 (inr (omega arith)) _ on_idle;
          suspends = f 8 (inr (omega arith)) _ on_suspend;
          wakes = f 9 (inr (omega arith)) _ on_wake;
          set_actives = f 10 (inr (omega arith)) _ on_active;
          set_suspendeds = f 11 (inr (omega arith)) _ on_suspended;
          ignores = λ a. f 12 (inr (omega arith)) _ (on_ignore v);
        }

  -- the callback closed after a status
  module _ {s : State} (h : P s) (p v : ℕ) where
    on_closed : (x : ℕ) → P (with_callback (with_status s p x) 0 0 0)
    on_closed x = c.opened _ _ _ (c.status _ _ h)

    pub on_result : P (result s p v).state
    unfolding result idle_result suspend_result resume_result go_on
    on_result =
        by_if On _ _ _ (λ e. by_if On _ _ _ (λ e. on_closed _) (λ e. by_if On _ _ _ (λ e. on_closed _) (λ e. c.error _ _ (on_closed _))))
        (λ e. by_if On _ _ _
        (λ e. by_if On _ _ _ (λ e. by_if On _ _ _ (λ e. on_resuming (on_closed _) _) (λ e. on_closed _)) (λ e. c.error _ _ (on_closed _)))
        (λ e. by_if On _ _ _ (λ e. on_suspending (c.opened 0 0 0 h) p) (λ e. c.opened _ _ _ h)))

  -- and where the holds' setter keeps it too, every record keeps it
  module _ (holds : (s : State) (p v : ℕ) → P s → P (with_holds s p v)) {s : State} (h : P s) where
    kinds_keep : (p v : ℕ) → Kinds (λ kind. On) s p v
    unfolding get get_wake put idle_unused put_idle
    kinds_keep p v =
        but_holds h p v (λ kind. On) (λ kind z d g. g)
        (by_if On _ _ _ (λ e. h) (λ e. holds s _ _ h))
        (by_if On _ _ _ (λ e. h) (λ e. on_wake (holds s _ _ h) p))
        (by_if On _ _ _ (λ e. h) (λ e. holds s _ _ h))
        (by_if On _ _ _ (λ e. h) (λ e. by_if On _ _ _ (λ u. holds s _ _ h) (λ u. on_idle (holds s _ _ h) p)))

    pub step_keeps : (r : Rec) → P (record_step s r).state
    step_keeps r =
        by_record On
        (record {
          refuses = λ number. h;
          results = λ k a o q. on_result h r.device r.value;
          busy = h;
          requests = λ f ne o. by_kind (λ kind. On) (kinds_keep r.device r.value) r.kind f.low f.high ne f.fits;
        })

-- no record touches the carried bytes
pub carry_kept : (s : State) (r : Rec) → (record_step s r).state.carry ≡ s.carry
carry_kept s r =
    step_keeps (λ x. x.carry ≡ s.carry)
    (record { status = λ p v e. e; depth = λ p v e. e; error = λ p v e. e; ignore = λ p v e. e; opened = λ k a t e. e })
    (λ s p v e. e) refl r
