-- What is promised of a wake set. Assumes nothing.
use Rattle.std.specs.Prelude.{◌≡◌, Bool, false, List, Option, None, Some, ℕ, ◌<◌, ◌≤◌}
use Rattle.model.specs.Logic.{◌and◌, any}
use Rattle.model.specs.State.{State, ACTIVE, status_at}
use Rattle.model.specs.WakeSet.{Sleeping, marked, On, wake_marks, lowest}
use Rattle.model.specs.Requests.{barred, others_barred}
use Rattle.memory.specs.Layout.{state_in}
use Rattle.links.specs.Firsts.{Listed}
use Rattle.wakeset.specs.declared.Reach.{Reach}

-- ---- the wake set of t
-- q sleeps, and is t or lower
pub record Sleeper (s : State) (t q : ℕ) : Type 0 where
  pub asleep : Sleeping s.devices.status q
  pub within : q ≤ t

-- its marks; and, whatever the index has, every mark is of a sleeping device up to t
pub record IsWakeSet (bytes first : List ℕ) (t : ℕ) (ms : List Bool) : Type 0 where
  pub only : (words : List ℕ) (q : ℕ) → On ms q → Sleeper (state_in bytes words) t q
  pub is : (words : List ℕ) → let s = state_in bytes words in Listed s.wiring first → t < s.wiring.n → ms ≡ wake_marks s.wiring s.devices.status t

-- its lowest member; and, whatever the index has, n where t is powered, and a sleeping device up to t where t sleeps
pub record IsLowest (bytes first : List ℕ) (t r : ℕ) : Type 0 where
  pub powered : (words : List ℕ) → ACTIVE ≤ status_at (state_in bytes words) t → r ≡ (state_in bytes words).wiring.n
  pub asleep : (words : List ℕ) → status_at (state_in bytes words) t < ACTIVE → Sleeper (state_in bytes words) t r
  pub is : (words : List ℕ) → let s = state_in bytes words in Listed s.wiring first → t < s.wiring.n → r ≡ lowest s t

-- the lowest member as an Option: none where t is powered, and where t sleeps its lowest
abbrev pub FindsLowest : (bytes first : List ℕ) (t : ℕ) → Option ℕ → Type 0
FindsLowest bytes first t None = (words : List ℕ) → ACTIVE ≤ status_at (state_in bytes words) t
FindsLowest bytes first t (Some q) = ((words : List ℕ) → status_at (state_in bytes words) t < ACTIVE) × IsLowest bytes first t q

-- a marked device below t is barred, where low is at most t and no device below it is marked
pub record HeardFrom (bytes words : List ℕ) (ms : List Bool) (low t : ℕ) (r : Bool) : Type 0 where
  pub is : low ≤ t → ((q : ℕ) → q < low → marked ms q ≡ false) → r ≡ any (λ q. marked ms q and barred (state_in bytes words) q) t

-- its lowest member, and whether another member is barred; whatever the index has, no other is where t is powered
pub record Reaches (bytes words first : List ℕ) (t : ℕ) (r : Reach) : Type 0 where
  pub low : IsLowest bytes first t r.low
  pub free : ACTIVE ≤ status_at (state_in bytes words) t → r.barred ≡ false
  pub barred : Listed (state_in bytes words).wiring first → t < (state_in bytes words).wiring.n → r.barred ≡ others_barred (state_in bytes words) t
