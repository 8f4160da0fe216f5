-- Keeping a bench ends as the replay of a log can. Assumes nothing.
use mathlib.Core.Path.{◌≡◌, refl, ap}
use mathlib.Core.Bool.{Bool, true, false}
use mathlib.Core.Logic.{⊎_elim}
use Prim.Native.Nat.{ℕ}
use native.Mathlib.Omega.{arith}
use Rattle.std.specs.Prelude.{Option, Some, None}
use Rattle.model.specs.State.{State}
use Rattle.model.specs.SoundTest.{sound_test}
use Rattle.program_end.specs.declared.End.{End}
use Rattle.replay_session.specs.Sessions.{Ran}
use Rattle.replay_session.proofs.Sessions.{ran_done, ran_failed, ran_stopped}
use Rattle.state_file.specs.Keeping.{Kept}

-- an argument is none or one
asked : Option ℕ → ℕ
asked None = 0
asked (Some i) = 1

differ : {n : ℕ} → n ≡ 1 → n ≡ 0 → ⊥
differ a b = omega arith

pub some_none : {save : Option ℕ} {i : ℕ} → save ≡ Some i → save ≡ None → ⊥
unfolding asked
some_none h n = differ (ap asked h) (ap asked n)

pub not_some : (save : Option ℕ) → ((i : ℕ) → save ≡ Some i → ⊥) → save ≡ None
not_some None h = refl
not_some (Some i) h = absurd (h i refl)

by_test : (b : Bool) {save : Option ℕ} {s : State} {end : End} → sound_test s ≡ b → (save ≡ None → ⊥) → Kept save s end → Ran end
by_test true e n k = ⊎_elim ran_done ran_failed (k.sound n e)
by_test false e n k = ran_stopped (k.unsound n e)

kept_by : (save : Option ℕ) {s : State} {end : End} → Kept save s end → Ran end
kept_by None k = ran_done (k.unasked refl)
kept_by (Some i) {s} k = by_test (sound_test s) refl (some_none refl) k

pub kept_ran : {save : Option ℕ} {s : State} {end : End} → Kept save s end → Ran end
kept_ran {save} k = kept_by save k
