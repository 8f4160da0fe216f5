-- The questions of a C host by their numbers: "24 also for an unknown question or a second part not below n". Assumes nothing.
use Rattle.std.specs.Prelude.{false, ℕ, eqb}
use Rattle.model.specs.Logic.{when◌then◌else◌}
use Rattle.model.specs.State.{State}
use Rattle.model.specs.Questions.{Told, told, tell_status, tell_holds, tell_usage, tell_children, tell_wake, tell_above}

-- a question, with the part that it is about and a second part
abbrev pub Question : Type 0
Question = State → ℕ → ℕ → Told

-- a question about one part does not look at the second
abbrev alone : (State → ℕ → Told) → Question
alone tell s p q = tell s p

-- 21, then 24
abbrev unknown : Question
unknown s p q = told s false 0

-- status, use count, child count, user holds, whether the second part is a member of the wake set, parents above
unfoldable pub ask : ℕ → Question
ask question =
    when eqb question 0 then alone tell_status
    else when eqb question 1 then alone tell_usage
    else when eqb question 2 then alone tell_children
    else when eqb question 3 then alone tell_holds
    else when eqb question 4 then tell_wake
    else when eqb question 5 then alone tell_above
    else unknown
