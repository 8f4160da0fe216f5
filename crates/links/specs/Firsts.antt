-- Where the links of each device begin. Assumes nothing.
use Rattle.std.specs.Prelude.{◌≡◌, List, ℕ, ◌+◌, ◌<◌, ◌≤◌, length, get_or, replicate, ltb, eqb}
use Rattle.model.specs.Limits.{ROWS, LINKS}
use Rattle.model.specs.Logic.{count, column}
use Rattle.model.specs.Table.{Wiring}
use Rattle.model.specs.State.{State}
use Rattle.model.specs.Sound.{Ordered}
use Rattle.memory.specs.Ready.{Ready}

-- how many links have a consumer below p; where links ascend, the first link of p or of a later device
unfoldable pub first_link : Wiring → ℕ → ℕ
first_link w p = count (λ i. ltb (get_or w.consumer i 0) p) w.m

-- the index: a row for each device, and one more, so that the links of p end where those of p + 1 begin
unfoldable pub first_links : Wiring → List ℕ
first_links w = column (first_link w) (ROWS + 1)

-- what `links::index` gives: the index, or no link at all where there are more than a table may have
pub record IndexIs (w : Wiring) (first : List ℕ) : Type 0 where
  pub is : w.m ≤ LINKS → first ≡ first_links w
  pub past : LINKS < w.m → first ≡ replicate (ROWS + 1) 0

-- row q + 1 has how many of the first i links have the consumer q
pub record Tallied (consumer : List ℕ) (i : ℕ) (first : List ℕ) : Type 0 where
  pub long : length first ≡ ROWS + 1
  pub zero : get_or first 0 0 ≡ 0
  pub at : (q : ℕ) → q < ROWS → get_or first (q + 1) 0 ≡ count (λ k. eqb (get_or consumer k 0) q) i

-- what the wake set needs: devices and links in order, and the index of the links
pub record Listed (w : Wiring) (first : List ℕ) : Type 0 where
  pub order : Ordered w
  pub index : first ≡ first_links w

-- what transitions need: a ready state, and the index of its links
pub record Indexed (s : State) (first : List ℕ) : Type 0 where
  pub ready : Ready s
  pub index : first ≡ first_links s.wiring
