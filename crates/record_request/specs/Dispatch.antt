-- What the dispatch promises. Assumes nothing.
use Rattle.std.specs.Prelude.{◌≡◌, true, List, ℕ, ◌<◌, ◌≤◌}
use Rattle.model.specs.Records.{LAST, RESULT, allowed}
use Rattle.model.specs.Steps.{request}
use Rattle.memory.specs.Layout.{state_in}
use Rattle.memory.specs.Ready.{Full}
use Rattle.links.specs.Firsts.{Indexed}
use Rattle.request_answer.specs.declared.Reply.{Reply}
use Rattle.request_answer.specs.Promises.{reply_of, Stays}

-- a request: a kind that is no result, with a value that it allows
pub record Requested (kind v : ℕ) : Type 0 where
  pub low : 1 ≤ kind
  pub high : kind ≤ LAST
  pub other : kind ≡ RESULT → ⊥
  pub fits : allowed kind v ≡ true

pub record RequestLeads (kind v : ℕ) (first bytes₀ words₀ : List ℕ) (p : ℕ) (bytes words : List ℕ) (r : Reply) : Type 0 where
  pub is : Requested kind v → Indexed (state_in bytes₀ words₀) first → p < (state_in bytes₀ words₀).wiring.n
      → request (state_in bytes₀ words₀) kind p v ≡ record { state = state_in bytes words; reply = reply_of r }
  pub stays : Full (state_in bytes₀ words₀) → Stays bytes₀ words₀ bytes words
