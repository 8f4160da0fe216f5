-- The open callback as the code has it, and what one record promises. Assumes nothing.
use Rattle.std.specs.Prelude.{◌≡◌, List, ℕ, eqb, Option, Some, None}
use Rattle.model.specs.Logic.{when◌then◌else◌}
use Rattle.model.specs.State.{State}
use Rattle.model.specs.Records.{Rec}
use Rattle.model.specs.Steps.{record_step}
use Rattle.memory.specs.Layout.{state_in}
use Rattle.memory.specs.Ready.{Full}
use Rattle.links.specs.Firsts.{Indexed}
use Rattle.request_answer.specs.declared.Reply.{Reply}
use Rattle.request_answer.specs.Promises.{reply_of, Stays}
use Rattle.request_answer.specs.declared.CallbackKind.TheVariants.{Suspend, Resume, Idle}
use Rattle.record_step.specs.declared.Open.{Open}

-- ---- the open callback by its kind's number: every number but 0 to 2 is read as idle, as the model does
unfoldable pub opened_as : ℕ → ℕ → ℕ → Option Open
opened_as kind asked target =
    when eqb kind 0 then None
    else when eqb kind 1 then Some (record { kind = Suspend; asked = asked; target = target })
    else when eqb kind 2 then Some (record { kind = Resume; asked = asked; target = target })
    else Some (record { kind = Idle; asked = asked; target = target })

-- the open callback of a state
abbrev pub open_in : State → Option Open
open_in s = opened_as s.callback.kind s.callback.asked s.callback.target

-- ---- promises
-- a whole record, from a ready state whose links the index is of; from any other, where all cells are there, nothing fixed changes
pub record Stepped (first bytes₀ words₀ : List ℕ) (r : Rec) (bytes words : List ℕ) (reply : Reply) : Type 0 where
  pub is : Indexed (state_in bytes₀ words₀) first → record_step (state_in bytes₀ words₀) r ≡ record { state = state_in bytes words; reply = reply_of reply }
  pub stays : Full (state_in bytes₀ words₀) → Stays bytes₀ words₀ bytes words
