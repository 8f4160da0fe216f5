-- The parents above a device. Assumes nothing.
use Rattle.std.specs.Prelude.{◌≡◌, List, ℕ, ◌<◌, ◌≤◌}
use Rattle.model.specs.Sound.{Ordered}
use Rattle.model.specs.Questions.{parents_above}
use Rattle.memory.specs.Layout.{state_in}

-- r parents stand above p, where parents are lower than their children; and always at most p
pub record Above (bytes : List ℕ) (p r : ℕ) : Type 0 where
  pub few : r ≤ p
  pub is : (words : List ℕ) → let s = state_in bytes words in Ordered s.wiring → p < s.wiring.n → r ≡ parents_above s p
