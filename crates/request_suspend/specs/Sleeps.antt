-- What the one path of kinds 6, 7 and 8 promises. Assumes nothing.
use Rattle.std.specs.Prelude.{◌≡◌, Bool, List, ℕ, ◌<◌, ◌≤◌, ltb, eqb}
use Rattle.model.specs.Logic.{◌and◌}
use Rattle.model.specs.State.{State, usage}
use Rattle.model.specs.Requests.{put, idle, put_idle, suspend}
use Rattle.request_answer.specs.declared.Reply.{Reply}
use Rattle.request_answer.specs.Promises.{Does, Leads, LeadsBy}

-- the put that kind 6 begins with, in any memory; another kind changes nothing
pub record PutFirst (kind : ℕ) (words₀ : List ℕ) (p : ℕ) (words : List ℕ) (code : ℕ) : Type 0 where
  pub puts : kind ≡ 6 → (bytes : List ℕ) → Does put bytes words₀ p bytes words code
  pub none : (kind ≡ 6 → ⊥) → (words ≡ words₀) × (code ≡ 0)

-- kind 6 goes no further after its put: the device is in use
unfoldable pub still_used : ℕ → State → ℕ → Bool
still_used kind s p = eqb kind 6 and ltb 0 (usage s p)

-- kind 6 is a put and idle, any other below 8 an idle, the others a suspend
pub record LetsSleep (kind : ℕ) (first bytes₀ words₀ : List ℕ) (p : ℕ) (bytes words : List ℕ) (r : Reply) : Type 0 where
  pub putting : kind ≡ 6 → Leads put_idle bytes₀ words₀ p bytes words r
  pub idling : (kind ≡ 6 → ⊥) → kind < 8 → Leads idle bytes₀ words₀ p bytes words r
  pub suspending : 8 ≤ kind → LeadsBy suspend first bytes₀ words₀ p bytes words r
