-- What a ready state is, and what it has. Assumes nothing.
use mathlib.Core.Path.{◌≡◌, refl, ◌∙◌, ap}
use mathlib.Core.List.{List}
use Prim.Native.Nat.{ℕ, ◌≤◌, ◌<◌}
use native.Mathlib.Omega.{arith}
use lib.ListN.{length, length-take, length-drop}
use Rattle.model.specs.Limits.{ROWS}
use Rattle.model.specs.State.{State, SUSPENDING, with_holds, with_status, with_callback, closed}
use Rattle.model.proofs.Basics.{few_rows, column_set}
use Rattle.model.specs.Sound.{Sound, CallbackRules, none_open, suspend_open, resume_open, idle_open}
use Rattle.memory.specs.Layout.{area, byte_tail, BYTES, state_in, WholeBytesBecome}
use Rattle.memory.specs.Ready.{Full, Ready, Fixed, fixed}

pub ready : {s : State} → Sound s → Ready s
ready {s} h =
    let k = h.kept in
    record {
      rules = k.table;
      statuses = k.statuses;
      carried = h.carried.long;
      children = k.children;
      target = target k.table.some h.callback;
      linked = k.linked;
    }
  where
    target : 1 ≤ s.wiring.n → CallbackRules s → s.callback.target < s.wiring.n
    target l (none_open o) = let e = o.target in omega arith
    target l (suspend_open o) = let e = o.target in let f = o.asked in omega arith
    target l (resume_open o) = o.target
    target l (idle_open o) = let e = o.target in let f = o.asked in omega arith

-- a device's row is there
pub status_row : {s : State} → Ready s → (p : ℕ) → p < ROWS → p < length s.devices.status
status_row h p l = let e = h.statuses.long in omega arith

-- the cells of the numbers are there, also after a change of status
module _ (bytes words : List ℕ) where
  pub full_long : Full (state_in bytes words) → BYTES ≤ length bytes
  unfolding state_in byte_tail area BYTES
  full_long h = let e = rw (length-take, length-drop, length-take, length-drop) at h in omega arith

  pub long : Ready (state_in bytes words) → BYTES ≤ length bytes
  long h = full_long h.carried

  pub long_turned : (s : State) (p v : ℕ) → Ready s → state_in bytes words ≡ with_status s p v → BYTES ≤ length bytes
  long_turned s p v h e = full_long (ap (λ (x : State). length x.carry.bytes) e ∙ h.carried)

-- user holds are any
pub ready_holds : {s : State} (p v : ℕ) → Ready s → Ready (with_holds s p v)
ready_holds p v h =
    record { rules = h.rules; statuses = h.statuses; carried = h.carried; children = h.children; target = h.target; linked = h.linked }

-- any callback with a device for a target
pub ready_callback : {s : State} (kind asked target : ℕ) → target < s.wiring.n → Ready s → Ready (with_callback s kind asked target)
ready_callback kind asked target l h =
    record { rules = h.rules; statuses = h.statuses; carried = h.carried; children = h.children; target = l; linked = h.linked }

-- a change of status brings the counts into line
pub ready_status : {s : State} (p v : ℕ) → p < s.wiring.n → v ≤ SUSPENDING → Ready s → Ready (with_status s p v)
ready_status {s} p v l m h =
    record {
      rules = h.rules;
      statuses = column_set h.statuses (few_rows h.rules.order.devices) p v l m;
      carried = h.carried;
      children = refl;
      target = h.target;
      linked = refl;
    }

-- no callback open
pub ready_closed : {s : State} → Ready s → Ready (closed s)
ready_closed h = ready_callback 0 0 0 h.rules.some h

-- ---- in any state where all cells are there
-- what is fixed stays, so the cells are there still
pub stays_full : (bytes₀ words₀ bytes words : List ℕ) → fixed (state_in bytes words) ≡ fixed (state_in bytes₀ words₀)
    → Full (state_in bytes₀ words₀) → Full (state_in bytes words)
stays_full bytes₀ words₀ bytes words e h = ap (λ (f : Fixed). length f.carry.bytes) e ∙ h

-- a callback opened or closed leaves what is fixed; so it does after what left it
pub callback_stays : (bytes₀ bytes words : List ℕ) (kind asked target : ℕ) → WholeBytesBecome (λ s. with_callback s kind asked target) bytes₀ bytes
    → Full (state_in bytes₀ words) → fixed (state_in bytes words) ≡ fixed (state_in bytes₀ words)
callback_stays bytes₀ bytes words kind asked target e h = ap fixed (e words (full_long bytes₀ words h))

pub then_callback : (bytes₀ words₀ bytes₁ words₁ bytes : List ℕ) (kind asked target : ℕ)
    → fixed (state_in bytes₁ words₁) ≡ fixed (state_in bytes₀ words₀) → WholeBytesBecome (λ s. with_callback s kind asked target) bytes₁ bytes
    → Full (state_in bytes₀ words₀) → fixed (state_in bytes words₁) ≡ fixed (state_in bytes₀ words₀)
then_callback bytes₀ words₀ bytes₁ words₁ bytes kind asked target e f h =
    callback_stays bytes₁ bytes words₁ kind asked target f (stays_full bytes₀ words₀ bytes₁ words₁ e h) ∙ e
