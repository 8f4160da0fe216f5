-- What a test of a memory answers. Assumes nothing.
use Rattle.std.specs.Prelude.{◌≡◌, Bool, List, ℕ}
use Rattle.model.specs.State.{State}
use Rattle.memory.specs.Layout.{state_in}

-- what a test says of the state in these bytes, whatever the words are
pub record Says (test : State → Bool) (bytes : List ℕ) (r : Bool) : Type 0 where
  pub is : (words : List ℕ) → r ≡ test (state_in bytes words)
