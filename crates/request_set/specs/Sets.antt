-- Parts of kinds 10, 11 and 12 that have functions of their own. Assumes nothing.
use Rattle.std.specs.Prelude.{◌≡◌, Bool, true, not, List, ℕ, ◌%◌, get_or, ltb, eqb}
use Rattle.model.specs.Logic.{◌and◌}
use Rattle.model.specs.State.{State, ACTIVE, status_at, children_at}
use Rattle.model.specs.Records.{allowed}
use Rattle.model.specs.Requests.{supplier_down, ignore_children}
use Rattle.memory.specs.Layout.{state_in}
use Rattle.links.specs.Firsts.{Indexed}
use Rattle.request_answer.specs.declared.Reply.{Reply}
use Rattle.request_answer.specs.Promises.{Stays, Leads}

-- link i is a runtime link, and its supplier is not active
unfoldable pub link_down : State → ℕ → Bool
link_down s i = eqb (get_or s.wiring.flags i 0 % 2) 1 and not (eqb (status_at s (get_or s.wiring.supplier i 0)) ACTIVE)

-- p is not active and has powered children
unfoldable pub inactive_with_children : State → ℕ → Bool
inactive_with_children s p = not (eqb (status_at s p) ACTIVE) and ltb 0 (children_at s p)

-- a runtime supplier of p is not active, where the index of the links is right
pub record Down (first bytes : List ℕ) (p : ℕ) (r : Bool) : Type 0 where
  pub is : (words : List ℕ) → Indexed (state_in bytes words) first → r ≡ supplier_down (state_in bytes words) p

-- kind 12 to a value that it allows leads from one memory to the other, whatever the words are
pub record IgnoreLeads (v : ℕ) (bytes₀ : List ℕ) (p : ℕ) (bytes : List ℕ) (r : Reply) : Type 0 where
  pub is : allowed 12 v ≡ true → (words : List ℕ) → Leads (λ s p. ignore_children s p v) bytes₀ words p bytes words r
  pub stays : (words : List ℕ) → Stays bytes₀ words bytes words
