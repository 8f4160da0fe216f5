-- "Public questions on a bench", with refusals 21 and 24. Assumes nothing.
use Rattle.std.specs.Prelude.{Bool, not, List, ℕ, zero, suc, get_or, leb, eqb}
use Rattle.model.specs.Limits.{NONE}
use Rattle.model.specs.Logic.{when◌then◌else◌, ◌or◌, bit}
use Rattle.model.specs.State.{State, status_at, holds_at, children_at, usage}
use Rattle.model.specs.WakeSet.{in_wake}
use Rattle.model.specs.SoundTest.{sound_test}

-- an answer: a value with number 0, or a refusal's number alone
pub record Told : Type 0 where
  pub number : ℕ
  pub value : ℕ

-- 21 for a bench that is not sound, then 24 for an unknown device, then what is read
unfoldable pub told : State → Bool → ℕ → Told
told s known value =
    when not (sound_test s) then record { number = 21; value = 0 }
    else when not known then record { number = 24; value = 0 }
    else record { number = 0; value = value }

abbrev about : (State → ℕ → ℕ) → State → ℕ → Told
about read s p = told s (not (leb s.wiring.n p)) (read s p)

abbrev pub tell_status : State → ℕ → Told
tell_status = about status_at

abbrev pub tell_holds : State → ℕ → Told
tell_holds = about holds_at

abbrev pub tell_usage : State → ℕ → Told
tell_usage = about usage

abbrev pub tell_children : State → ℕ → Told
tell_children = about children_at

-- 1 where q is a member of p's wake set, 0 where not
abbrev pub tell_wake : State → ℕ → ℕ → Told
tell_wake s p q = told s (not (leb s.wiring.n p or leb s.wiring.n q)) (bit (in_wake s p q))

-- how many parents stand above p, at most k: a parent's number is lower than its child's, so k = p is enough
unfoldable pub climb : List ℕ → ℕ → ℕ → ℕ
climb parent zero p = 0
climb parent (suc k) p = when eqb (get_or parent p 0) NONE then 0 else suc (climb parent k (get_or parent p 0))

unfoldable pub parents_above : State → ℕ → ℕ
parents_above s p = climb s.wiring.parent p p

abbrev pub tell_above : State → ℕ → Told
tell_above = about parents_above
