-- The public questions by their numbers, the answer as one number. Assumes nothing.
use Rattle.std.specs.Prelude.{List, [], ◌∷◌, ℕ, get_or}
use Rattle.model.specs.State.{State}
use Rattle.model.specs.Questions.{Told, tell_status, tell_holds, tell_usage, tell_children, tell_wake, tell_above}

-- the answers about p, by the numbers of the questions
unfoldable pub answers_about : State → ℕ → List Told
answers_about s p = tell_status s p ∷ tell_holds s p ∷ tell_usage s p ∷ tell_children s p ∷ tell_above s p ∷ []

-- any other question is about p and q
unfoldable pub asked_of : State → ℕ → ℕ → ℕ → Told
asked_of s question p q = get_or (answers_about s p) question (tell_wake s p q)
