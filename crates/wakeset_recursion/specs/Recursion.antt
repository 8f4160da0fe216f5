-- What marking by recursion promises. Assumes nothing.
use Rattle.std.specs.Prelude.{◌≡◌, Bool, true, List, ◌⊎◌, ℕ, ◌+◌, ◌<◌, ◌≤◌, length, get_or}
use Rattle.model.specs.Limits.{ROWS}
use Rattle.model.specs.State.{State}
use Rattle.model.specs.WakeSet.{Sleeping, Needs, Falls, On}
use Rattle.memory.specs.Layout.{state_in}
use Rattle.links.specs.Firsts.{Listed}
use Rattle.wake_rules.specs.Rests.{on_supplier}
use Rattle.wakeset.specs.Marks.{Sleeper}

-- ---- sets of devices
-- the members of p's wake set
abbrev pub falls_from : ℕ → State → ℕ → Type 0
falls_from p s q = Falls s.wiring s.devices.status p q

-- q is reached through a supplier of p, by one of the links from k on
pub record FromLinks (first : List ℕ) (p k : ℕ) (s : State) (q : ℕ) : Type 0 where
  pub at : ℕ
  pub from : k ≤ at
  pub below : at < get_or first (p + 1) 0
  pub leads : on_supplier s.wiring p at ≡ true
  pub falls : Falls s.wiring s.devices.status (get_or s.wiring.supplier at 0) q

abbrev pub links_from : List ℕ → ℕ → ℕ → State → ℕ → Type 0
links_from first p k s q = FromLinks first p k s q

-- ---- marks
-- the marks at exit are those at entry and those of P
pub record Joined (P : ℕ → Type 0) (ms₀ ms : List Bool) : Type 0 where
  pub kept : (q : ℕ) → On ms₀ q → On ms q
  pub has : (q : ℕ) → P q → On ms q
  pub only : (q : ℕ) → On ms q → On ms₀ q ⊎ P q

-- what marking needs: the index of the links, a mark for each row, and with each marked device the lower sleeping ones that it rests on
pub record Markable (s : State) (first : List ℕ) (ms : List Bool) : Type 0 where
  pub listed : Listed s.wiring first
  pub long : length ms ≡ ROWS
  pub closed : (p q : ℕ) → On ms p → Needs s.wiring p q → q < p → Sleeping s.devices.status q → On ms q

-- the devices of P are marked; and, whatever the index has, no device but sleeping ones up to p
pub record Marks (P : State → ℕ → Type 0) (bytes first : List ℕ) (p : ℕ) (ms₀ ms : List Bool) : Type 0 where
  pub long : length ms ≡ length ms₀
  pub only : (words : List ℕ) (q : ℕ) → On ms q → On ms₀ q ⊎ Sleeper (state_in bytes words) p q
  pub is : (words : List ℕ) → Markable (state_in bytes words) first ms₀ → Joined (P (state_in bytes words)) ms₀ ms
