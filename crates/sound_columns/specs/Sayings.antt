-- What the functions of this crate answer. Assumes nothing.
use Rattle.std.specs.Prelude.{◌≡◌, Bool, List, ℕ}
use Rattle.model.specs.State.{State, children_of, linked_of}
use Rattle.memory.specs.Layout.{state_in}

-- what a test says of a state of n devices and m links
pub record SaysOf (test : State → Bool) (n m : ℕ) (s : State) (r : Bool) : Type 0 where
  pub is : s.wiring.n ≡ n → s.wiring.m ≡ m → r ≡ test s

-- the child counts of n devices, the link counts of m links
pub record ChildrenCounted (n : ℕ) (bytes r : List ℕ) : Type 0 where
  pub is : (words : List ℕ) → (state_in bytes words).wiring.n ≡ n → r ≡ children_of (state_in bytes words).wiring (state_in bytes words).devices.status

pub record LinksCounted (m : ℕ) (bytes r : List ℕ) : Type 0 where
  pub is : (words : List ℕ) → (state_in bytes words).wiring.m ≡ m → r ≡ linked_of (state_in bytes words).wiring (state_in bytes words).devices.status
