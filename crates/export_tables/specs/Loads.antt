-- A table loaded into a memory, the answer as one number. Assumes nothing.
use Rattle.std.specs.Prelude.{◌≡◌, List, ℕ, ◌+◌, ◌*◌}
use Rattle.model.specs.Table.{TableAnswer}
use Rattle.model.specs.State.{load_of}
use Rattle.memory.specs.Layout.{state_in}

-- the refusal's number and 256 times its index; 0 where the table is taken
abbrev pub coded : TableAnswer → ℕ
coded a = a.number + 256 * a.index

-- the answer to table t, and the state that it leaves
pub record LoadIs (t bytes words : List ℕ) (r : ℕ) : Type 0 where
  pub code : r ≡ coded (load_of t).answer
  pub state : state_in bytes words ≡ (load_of t).state
