-- The index of the links is made inside: what the callees promise of an index holds then of the memory alone. Assumes nothing.
use mathlib.Core.Path.{◌≡◌}
use mathlib.Core.Bool.{Bool}
use mathlib.Core.List.{List}
use Prim.Native.Nat.{ℕ, ◌≤◌}
use Rattle.model.specs.Limits.{LINKS}
use Rattle.model.specs.Table.{Wiring}
use Rattle.model.specs.Sound.{Ordered}
use Rattle.memory.specs.Layout.{state_in}
use Rattle.links.specs.Firsts.{first_links, Listed}
use Rattle.wakeset.specs.Marks.{IsWakeSet, IsLowest}
use Rattle.export_wakes.specs.Exported.{WakeSetIs, LowestIs}

-- what `links::index` promises
abbrev IndexOf : Wiring → List ℕ → Type 0
IndexOf w first = w.m ≤ LINKS → first ≡ first_links w

listed : {w : Wiring} {first : List ℕ} → IndexOf w first → Ordered w → Listed w first
listed index order = record { order = order; index = index order.links }

module _ {bytes words first : List ℕ} {t : ℕ} where
  pub wake_set_is : {ms : List Bool} → IndexOf (state_in bytes words).wiring first → IsWakeSet bytes first t ms → WakeSetIs bytes words t ms
  wake_set_is index h = record { only = h.only words; is = λ order below. h.is words (listed index order) below }

  pub lowest_is : {r : ℕ} → IndexOf (state_in bytes words).wiring first → IsLowest bytes first t r → LowestIs bytes words t r
  lowest_is index h = record { powered = h.powered words; asleep = h.asleep words; is = λ order below. h.is words (listed index order) below }
