-- A part of the suspend test that has a function of its own. Assumes nothing.
use Rattle.std.specs.Prelude.{Bool, ℕ, ltb}
use Rattle.model.specs.Logic.{◌and◌}
use Rattle.model.specs.State.{State, children_at, counts_children}

-- p has powered children that count
unfoldable pub has_children : State → ℕ → Bool
has_children s p = ltb 0 (children_at s p) and counts_children s p
