-- The index of the links is made inside: what the callees promise of an index holds then of the memory alone. Assumes nothing.
use mathlib.Core.Path.{◌≡◌, sym, ap, ◌∙◌}
use mathlib.Core.List.{List}
use Prim.Native.Nat.{ℕ, ◌≤◌}
use Rattle.model.specs.Limits.{LINKS}
use Rattle.model.specs.Table.{Wiring}
use Rattle.model.specs.Records.{Rec, Done}
use Rattle.memory.specs.Layout.{state_in}
use Rattle.memory.specs.Ready.{Ready}
use Rattle.links.specs.Firsts.{first_links, Indexed}
use Rattle.counts.specs.Shifts.{Turned}
use Rattle.counts.proofs.Turning.{turned_on}
use Rattle.request_answer.specs.declared.Reply as declared
use Rattle.request_answer.specs.Promises.{reply_of}
use Rattle.record_step.specs.Records.{Stepped}
use Rattle.export_states.specs.Exported.{packed, StatusSet, StepIs}

-- what `links::index` promises
abbrev IndexOf : Wiring → List ℕ → Type 0
IndexOf w first = w.m ≤ LINKS → first ≡ first_links w

indexed : (bytes words : List ℕ) {first : List ℕ} → IndexOf (state_in bytes words).wiring first → Ready (state_in bytes words) → Indexed (state_in bytes words) first
indexed bytes words index ready = record { ready = ready; index = index ready.rules.order.links }

module _ {first bytes₀ words₀ : List ℕ} where
  pub status_set :
      {p v : ℕ} {bytes words : List ℕ} → IndexOf (state_in bytes₀ words₀).wiring first → Turned p v first bytes₀ words₀ bytes words
      → StatusSet p v bytes₀ words₀ bytes words
  status_set index turned = record { is = λ ready below. turned.is (indexed bytes₀ words₀ index ready) below; stays = turned_on turned }

  pub step_is :
      {r : Rec} {bytes words : List ℕ} (reply : declared.Reply) {answer : ℕ} → IndexOf (state_in bytes₀ words₀).wiring first
      → Stepped first bytes₀ words₀ r bytes words reply → answer ≡ packed (reply_of reply) → StepIs bytes₀ words₀ r bytes words answer
  step_is reply index stepped told =
      record {
        state = λ ready. sym (ap (λ (d : Done). d.state) (stepped.is (indexed bytes₀ words₀ index ready)));
        reply = λ ready. told ∙ sym (ap (λ (d : Done). packed d.reply) (stepped.is (indexed bytes₀ words₀ index ready)));
        stays = stepped.stays;
      }
