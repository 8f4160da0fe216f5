-- The memory of a bench saved to a buffer, and restored from bytes. Assumes nothing.
use Rattle.std.specs.Prelude.{◌≡◌, List, ℕ}
use Rattle.memory.specs.Layout.{state_in}
use Rattle.saved_form.specs.Saving.{save_of}
use Rattle.saved_form.specs.Restoring.{restore_of}

-- the answer for the state of a memory, and every byte of the buffer
pub record SaveIs (bytes words old new : List ℕ) (r : ℕ) : Type 0 where
  pub number : r ≡ (save_of (state_in bytes words) old).number
  pub buffer : new ≡ (save_of (state_in bytes words) old).buffer

-- the answer for the bytes f, and the state that they leave
pub record RestoreIs (f bytes words : List ℕ) (r : ℕ) : Type 0 where
  pub number : r ≡ (restore_of f).number
  pub state : state_in bytes words ≡ (restore_of f).state
