-- What a request promises of the memory before and after it. Assumes nothing.
use Rattle.std.specs.Prelude.{◌≡◌, List, ℕ, ◌<◌, eqb}
use Rattle.model.specs.Limits.{minus}
use Rattle.model.specs.Logic.{when◌then◌else◌}
use Rattle.model.specs.State.{State}
use Rattle.model.specs.Records.{Reply, Done, finished}
use Rattle.memory.specs.Layout.{state_in}
use Rattle.memory.specs.Ready.{Full, fixed}
use Rattle.links.specs.Firsts.{Indexed}
use Rattle.request_answer.specs.declared.Reply as declared
use Rattle.request_answer.specs.declared.CallbackKind.{CallbackKind}
use Rattle.request_answer.specs.declared.CallbackKind.TheVariants.{Suspend, Resume, Idle}

-- the number of a callback, in replies and in the memory of a bench
abbrev pub callback_number : CallbackKind → ℕ
callback_number Suspend = 1
callback_number Resume = 2
callback_number Idle = 3

abbrev pub reply_of : declared.Reply → Reply
reply_of r = record { kind = r.kind; device = r.device; code = r.code }

-- device p's request leads from one memory to the other, and is finished with a code, in any memory
abbrev pub Does : (request : State → ℕ → Done) (bytes₀ words₀ : List ℕ) (p : ℕ) (bytes words : List ℕ) (code : ℕ) → Type 0
Does request bytes₀ words₀ p bytes words code = request (state_in bytes₀ words₀) p ≡ finished (state_in bytes words) p code

-- the same with any reply, where all cells are there
pub record Leads (request : State → ℕ → Done) (bytes₀ words₀ : List ℕ) (p : ℕ) (bytes words : List ℕ) (r : declared.Reply) : Type 0 where
  pub is : Full (state_in bytes₀ words₀) → request (state_in bytes₀ words₀) p ≡ record { state = state_in bytes words; reply = reply_of r }

-- what is fixed stays as it was
abbrev pub Stays : (bytes₀ words₀ bytes words : List ℕ) → Type 0
Stays bytes₀ words₀ bytes words = fixed (state_in bytes words) ≡ fixed (state_in bytes₀ words₀)

-- with the index of the links: in a ready state the whole answer; in any other, where all cells are there, nothing fixed changes
pub record LeadsBy (request : State → ℕ → Done) (first bytes₀ words₀ : List ℕ) (p : ℕ) (bytes words : List ℕ) (r : declared.Reply) : Type 0 where
  pub is : Indexed (state_in bytes₀ words₀) first → p < (state_in bytes₀ words₀).wiring.n
      → request (state_in bytes₀ words₀) p ≡ record { state = state_in bytes words; reply = reply_of r }
  pub stays : Full (state_in bytes₀ words₀) → Stays bytes₀ words₀ bytes words

-- the magnitude of a negative value; 0 for 0
unfoldable pub magnitude : ℕ → ℕ
magnitude v = when eqb v 0 then 0 else minus v
