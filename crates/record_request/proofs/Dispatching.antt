-- What the path of kinds 6, 7 and 8 promises of each of them, and which kind is left after the others. Assumes nothing.
use mathlib.Core.Path.{◌≡◌, ◌∙◌}
use mathlib.Core.Bool.{true, false}
use mathlib.Core.List.{List}
use Prim.Native.Nat.{ℕ, suc, ◌≤◌}
use native.Mathlib.Omega.{arith}
use native.Mathlib.Decide.{ℕ_discrete, dec_lt}
use lib.Dec.{ltb}
use borrow.Author.Tests.{ltb-true, lt-ltb}
use Rattle.model.specs.Logic.{when◌then◌else◌, ◌and◌}
use Rattle.model.specs.State.{State}
use Rattle.model.specs.Records.{allowed}
use Rattle.model.specs.Requests.{put_idle, idle, suspend, ignore_children}
use Rattle.model.specs.Steps.{request}
use Rattle.model.proofs.Basics.{and_parts, and_of, never}
use Rattle.memory.specs.Layout.{state_in}
use Rattle.request_answer.specs.declared.Reply.{Reply}
use Rattle.request_suspend.specs.Sleeps.{LetsSleep}
use Rattle.record_request.specs.Dispatch.{Requested, RequestLeads}
use Rattle.record_request.proofs.Staying.{idle_stays, put_idle_stays}

-- ---- the model's lines of these kinds
module _ (s : State) (p v : ℕ) {kind : ℕ} where
  line_6 : kind ≡ 6 → request s kind p v ≡ put_idle s p
  unfolding request when◌then◌else◌
  line_6 e = rw e

  line_7 : kind ≡ 7 → request s kind p v ≡ idle s p
  unfolding request when◌then◌else◌
  line_7 e = rw e

  line_8 : kind ≡ 8 → request s kind p v ≡ suspend s p
  unfolding request when◌then◌else◌
  line_8 e = rw e

  pub line_12 : kind ≡ 12 → request s kind p v ≡ ignore_children s p v
  unfolding request when◌then◌else◌
  line_12 e = rw e

-- ---- the path
module _ {kind v p : ℕ} {first bytes₀ words₀ bytes words : List ℕ} {r : Reply} where
  -- kinds 6, 7 and 8
  pub sleeping : ltb 5 kind and ltb kind 9 ≡ true → LetsSleep kind first bytes₀ words₀ p bytes words r → RequestLeads kind v first bytes₀ words₀ p bytes words r
  sleeping t on =
      let parts = and_parts (ltb 5 kind) (ltb kind 9) t in
      let low = ltb-true 5 kind parts.0 in
      let high = ltb-true kind 9 parts.1 in
      let s = state_in bytes₀ words₀ in
      elim (ℕ_discrete kind 6) [
        | yes e ↦
            let done = on.putting e in
            record { is = λ g h l. line_6 s p v e ∙ done.is h.ready.carried; stays = λ f. put_idle_stays s _ p _ (done.is f) }
        | no n ↦ elim (dec_lt kind 8) [
          | yes l ↦
              let done = on.idling n l in
              record { is = λ g h b. line_7 s p v (omega (arith, n)) ∙ done.is h.ready.carried; stays = λ f. idle_stays s _ p _ (done.is f) }
          | no m ↦
              let e : kind ≡ 8 = omega arith in
              let done = on.suspending (omega arith) in
              record { is = λ g h l. line_8 s p v e ∙ done.is h l; stays = done.stays }
        ]
      ]

-- ---- which kind is left
-- a kind from k on that is not k
pub past : {k kind : ℕ} → k ≤ kind → (kind ≡ k → ⊥) → suc k ≤ kind
past h ne = omega (arith, ne)

-- a kind from 6 on that is none of the path's
pub past_sleeping : (kind : ℕ) → ltb 5 kind and ltb kind 9 ≡ false → 6 ≤ kind → 9 ≤ kind
past_sleeping kind t l =
    elim (dec_lt kind 9) [
      | yes y ↦ never (and_of (ltb 5 kind) (ltb kind 9) (lt-ltb 5 kind l) (lt-ltb kind 9 y)) t
      | no g ↦ omega arith
    ]

-- kind 12 is what is left of the requests after 1 to 11
pub is_last : (kind v : ℕ) → Requested kind v → 12 ≤ kind → kind ≡ 12
is_last kind v g l = let h = g.high in omega (arith, g.other)

pub last_allowed : (kind v : ℕ) → Requested kind v → kind ≡ 12 → allowed 12 v ≡ true
last_allowed kind v g e = rw e at g.fits
