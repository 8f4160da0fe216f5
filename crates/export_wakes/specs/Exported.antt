-- What is told of wake sets on a memory, with the index of the links made inside. Assumes nothing.
use Rattle.std.specs.Prelude.{◌≡◌, Bool, List, ℕ, ◌<◌, ◌≤◌}
use Rattle.model.specs.State.{ACTIVE, status_at}
use Rattle.model.specs.WakeSet.{On, wake_marks, lowest}
use Rattle.model.specs.Sound.{Ordered}
use Rattle.memory.specs.Layout.{state_in}
use Rattle.wakeset.specs.Marks.{Sleeper}

-- the marks of the wake set of t, where the table is in order; in any case every mark is of a sleeping device up to t
pub record WakeSetIs (bytes words : List ℕ) (t : ℕ) (ms : List Bool) : Type 0 where
  pub only : (q : ℕ) → On ms q → Sleeper (state_in bytes words) t q
  pub is : let s = state_in bytes words in Ordered s.wiring → t < s.wiring.n → ms ≡ wake_marks s.wiring s.devices.status t

-- its lowest member; in any case n where t is powered, and a sleeping device up to t where t sleeps
pub record LowestIs (bytes words : List ℕ) (t r : ℕ) : Type 0 where
  pub powered : ACTIVE ≤ status_at (state_in bytes words) t → r ≡ (state_in bytes words).wiring.n
  pub asleep : status_at (state_in bytes words) t < ACTIVE → Sleeper (state_in bytes words) t r
  pub is : let s = state_in bytes words in Ordered s.wiring → t < s.wiring.n → r ≡ lowest s t
