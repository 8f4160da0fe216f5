-- One piece on a memory, the answer as one number. Assumes nothing.
use Rattle.std.specs.Prelude.{◌≡◌, List, ℕ, ◌+◌, ◌*◌}
use Rattle.model.specs.Feed.{Fed, feed_of}
use Rattle.memory.specs.Layout.{state_in}

-- a refusal's number and 256 times the number of replies
abbrev pub fed_code : ℕ → ℕ → ℕ
fed_code number replies = number + 256 * replies

-- a piece fed to state s: the code, every byte of the buffer, and the state that it leads to
pub record FedIs (f : Fed) (bytes words : List ℕ) (r : ℕ) (after : List ℕ) : Type 0 where
  pub code : r ≡ fed_code f.number f.replies
  pub left : after ≡ f.buffer
  pub state : state_in bytes words ≡ f.state

-- from the state of a memory
abbrev pub FedIn : (bytes₀ words₀ piece buffer bytes words : List ℕ) → ℕ → List ℕ → Type 0
FedIn bytes₀ words₀ piece buffer bytes words r after =
    FedIs (feed_of (state_in bytes₀ words₀) (record { bytes = piece; buffer = buffer })) bytes words r after
