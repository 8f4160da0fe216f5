-- What a status set and a record give on a memory, with the index of the links made inside. Assumes nothing.
use Rattle.std.specs.Prelude.{◌≡◌, List, ℕ, ◌+◌, ◌*◌, ◌<◌}
use Rattle.model.specs.State.{with_status}
use Rattle.model.specs.Records.{Rec, Reply}
use Rattle.model.specs.Steps.{record_step}
use Rattle.memory.specs.Layout.{state_in}
use Rattle.memory.specs.Ready.{Full, Ready, fixed}

-- the status of p is v, and the counts are in line, from a ready state; from any state nothing fixed changes
pub record StatusSet (p v : ℕ) (bytes₀ words₀ bytes words : List ℕ) : Type 0 where
  pub is : Ready (state_in bytes₀ words₀) → p < (state_in bytes₀ words₀).wiring.n → state_in bytes words ≡ with_status (state_in bytes₀ words₀) p v
  pub stays : fixed (state_in bytes words) ≡ fixed (state_in bytes₀ words₀)

-- a reply as one number, from the low byte on: its kind, its device and its code
abbrev pub packed : Reply → ℕ
packed r = r.kind + 256 * r.device + 65536 * r.code

-- the state that a record leads to and its reply, from a ready state; from any that has all its cells nothing fixed changes
pub record StepIs (bytes₀ words₀ : List ℕ) (r : Rec) (bytes words : List ℕ) (answer : ℕ) : Type 0 where
  pub state : Ready (state_in bytes₀ words₀) → state_in bytes words ≡ (record_step (state_in bytes₀ words₀) r).state
  pub reply : Ready (state_in bytes₀ words₀) → answer ≡ packed (record_step (state_in bytes₀ words₀) r).reply
  pub stays : Full (state_in bytes₀ words₀) → fixed (state_in bytes words) ≡ fixed (state_in bytes₀ words₀)
