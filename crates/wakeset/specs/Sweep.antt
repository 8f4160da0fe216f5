-- The sweep down the device numbers, step by step: which devices a step marks, and what holds of the marks after it. Assumes nothing.
use Rattle.std.specs.Prelude.{◌≡◌, Bool, true, false, List, ◌⊎◌, ◌↔◌, ℕ, ◌+◌, ◌<◌, ◌≤◌, length, get_or, replicate}
use Rattle.model.specs.Limits.{ROWS}
use Rattle.model.specs.State.{State, ACTIVE, status_at}
use Rattle.model.specs.WakeSet.{InWake, Falls, marked, On}
use Rattle.memory.specs.Layout.{state_in}
use Rattle.links.specs.Firsts.{Listed}
use Rattle.wake_rules.specs.Rests.{sleeping_parent, sleeping_supplier}
use Rattle.wakeset.specs.Marks.{Sleeper}

-- ---- the devices that a step marks
-- q, where the test holds
pub record Chosen (on : Bool) (q r : ℕ) : Type 0 where
  pub holds : on ≡ true
  pub is : r ≡ q

-- q is p's parent, which p rests on, and sleeps
abbrev pub AtParent : State → ℕ → ℕ → Type 0
AtParent s p q = Chosen (sleeping_parent s p) (get_or s.wiring.parent p 0) q

-- q is the supplier of link i, by which p rests on it, and sleeps
abbrev pub AtLink : State → ℕ → ℕ → ℕ → Type 0
AtLink s p i q = Chosen (sleeping_supplier s p i) (get_or s.wiring.supplier i 0) q

-- the same of one of the links from a on, before b
pub record AmongLinks (s : State) (p a b q : ℕ) : Type 0 where
  pub at : ℕ
  pub from : a ≤ at
  pub below : at < b
  pub link : AtLink s p at q

-- q sleeps, and p rests on it: by its parent, or by one of the links that the index gives it
abbrev pub Follows : State → List ℕ → ℕ → ℕ → Type 0
Follows s first p q = AtParent s p q ⊎ AmongLinks s p (get_or first p 0) (get_or first (p + 1) 0) q

-- ---- marks
-- low is the lowest mark
pub record LowestMark (ms : List Bool) (low : ℕ) : Type 0 where
  pub on : On ms low
  pub least : (q : ℕ) → On ms q → low ≤ q

-- the marks after are those before and those of P; the lowest is known after where it was before
pub record Adds (P : ℕ → Type 0) (ms₀ : List Bool) (low₀ : ℕ) (ms : List Bool) (low : ℕ) : Type 0 where
  pub long : length ms ≡ length ms₀
  pub kept : (q : ℕ) → On ms₀ q → On ms q
  pub has : (q : ℕ) → P q → On ms q
  pub only : (q : ℕ) → On ms q → On ms₀ q ⊎ P q
  pub lowest : LowestMark ms₀ low₀ → LowestMark ms low

-- device p is passed: the sleeping devices that it rests on are marked, in any memory
pub record Passes (bytes first : List ℕ) (p : ℕ) (ms₀ : List Bool) (low₀ : ℕ) (ms : List Bool) (low : ℕ) : Type 0 where
  pub is : (words : List ℕ) → length ms₀ ≡ ROWS → Adds (Follows (state_in bytes words) first p) ms₀ low₀ ms low

-- one step: device q is passed where it is marked, else nothing changes
pub record Steps (bytes first : List ℕ) (q : ℕ) (ms₀ : List Bool) (low₀ : ℕ) (ms : List Bool) (low : ℕ) : Type 0 where
  pub on : On ms₀ q → Passes bytes first q ms₀ low₀ ms low
  pub off : marked ms₀ q ≡ false → (ms ≡ ms₀) × (low ≡ low₀)

-- ---- the sweep
-- request Two's sentence: the devices from k on are passed, and the marked ones among them are exactly the wake set's
abbrev pub Exact : State → ℕ → ℕ → List Bool → Type 0
Exact s t k ms = (q : ℕ) → k ≤ q → On ms q ↔ InWake s.wiring s.devices.status t q

-- the devices from k on are passed: t is marked, and with each marked device that was passed all that follow it; every mark is of a
-- sleeping device up to t, and where the index is right, of one that is reached from t by falling numbers; low is the lowest mark
pub record Swept (s : State) (first : List ℕ) (t k : ℕ) (ms : List Bool) (low : ℕ) : Type 0 where
  pub long : length ms ≡ ROWS
  pub top : On ms t
  pub rests : (p q : ℕ) → k ≤ p → On ms p → Follows s first p q → On ms q
  pub asleep : (q : ℕ) → On ms q → Sleeper s t q
  pub reached : Listed s.wiring first → (q : ℕ) → On ms q → Falls s.wiring s.devices.status t q
  pub lowest : LowestMark ms low

-- the whole sweep for the sleeping device t, from no mark: every device is passed
pub record Sweeps (bytes first : List ℕ) (t : ℕ) (ms₀ ms : List Bool) (low : ℕ) : Type 0 where
  pub is : (words : List ℕ) → ms₀ ≡ replicate ROWS false → status_at (state_in bytes words) t < ACTIVE → Swept (state_in bytes words) first t 0 ms low
