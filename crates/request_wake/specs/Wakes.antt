-- Parts of the model's wake that have functions of their own. Assumes nothing.
use Rattle.std.specs.Prelude.{◌≡◌, List, ℕ, ◌<◌, eqb}
use Rattle.model.specs.Limits.{EBUSY, minus}
use Rattle.model.specs.Logic.{when◌then◌else◌}
use Rattle.model.specs.State.{State, RESUMING, ACTIVE, status_at, with_status, with_callback}
use Rattle.model.specs.Records.{Done, ask}
use Rattle.model.specs.Steps.{resume_result}
use Rattle.memory.specs.Layout.{state_in}
use Rattle.memory.specs.Ready.{Full, Ready}
use Rattle.links.specs.Firsts.{Indexed}
use Rattle.request_answer.specs.declared.Reply.{Reply}
use Rattle.request_answer.specs.Promises.{reply_of, Stays}

-- q turns resuming for the wake of t, and its resume callback is asked for
unfoldable pub resume_of : State → ℕ → ℕ → Done
resume_of s q t = ask (with_callback (with_status s q RESUMING) 2 q t) 2 q

pub record Resumes (bytes₀ : List ℕ) (q t : ℕ) (bytes : List ℕ) (r : Reply) : Type 0 where
  pub is : (words : List ℕ) → Ready (state_in bytes₀ words) → status_at (state_in bytes₀ words) q < ACTIVE
      → resume_of (state_in bytes₀ words) q t ≡ record { state = state_in bytes words; reply = reply_of r }
  pub stays : (words : List ℕ) → Full (state_in bytes₀ words) → Stays bytes₀ words bytes words

-- the result v of p's resume callback for the wake of t leads from one memory to the other, where t is a device
pub record ResultLeads (t v : ℕ) (first bytes₀ words₀ : List ℕ) (p : ℕ) (bytes words : List ℕ) (r : Reply) : Type 0 where
  pub is : t < (state_in bytes₀ words₀).wiring.n → Indexed (state_in bytes₀ words₀) first → p < (state_in bytes₀ words₀).wiring.n
      → resume_result (state_in bytes₀ words₀) p t v ≡ record { state = state_in bytes words; reply = reply_of r }
  pub stays : Full (state_in bytes₀ words₀) → Stays bytes₀ words₀ bytes words

-- the code of the wake of t, where the resume callback of p failed with v
unfoldable pub failed : ℕ → ℕ → ℕ → ℕ
failed p t v = when eqb p t then v else minus EBUSY
