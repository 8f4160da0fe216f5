-- How the counts follow a change of status, step by step. Assumes nothing.
use Rattle.std.specs.Prelude.{◌≡◌, Bool, true, false, not, List, ℕ, zero, suc, ◌+◌, ◌-◌, ◌<◌, ◌%◌, get_or, set, eqb, ltb, leb}
use Rattle.std.specs.Bool.{beq}
use Rattle.model.specs.Limits.{LINKS, ROWS, NONE}
use Rattle.model.specs.Logic.{when◌then◌else◌, ◌and◌, tally, column}
use Rattle.model.specs.Table.{Wiring}
use Rattle.model.specs.State.{State, status_at, children_at, powered, with_status}
use Rattle.memory.specs.Layout.{state_in}
use Rattle.links.specs.Firsts.{Indexed}
use Rattle.memory.specs.Cells.{with_status_cell, with_children, with_linked_column}

-- link k is a runtime link of the consumer p
unfoldable pub runtime_of : List ℕ → List ℕ → ℕ → ℕ → Bool
runtime_of consumer flags p k = eqb (get_or consumer k 0) p and eqb (get_or flags k 0 % 2) 1

-- ---- what the code does
-- a count one more or one less; it stays where that would pass the most
unfoldable pub next_up_to : ℕ → Bool → ℕ → ℕ
next_up_to most up x = when up then when leb most x then x else x + 1 else x - 1

-- device p's parent, if it has one, counts p or counts it no more
unfoldable pub shift_child : State → ℕ → Bool → State
shift_child s p up = let q = get_or s.wiring.parent p 0 in when eqb q NONE then s else with_children s q (next_up_to 255 up (children_at s q))

-- link i, and k links from a on
unfoldable pub link_step : Wiring → Bool → ℕ → List ℕ → List ℕ
link_step w up i col = let q = get_or w.supplier i 0 in when eqb (get_or w.flags i 0 % 2) 1 then set col q (next_up_to 65535 up (get_or col q 0)) else col

unfoldable pub shift_link : State → Bool → ℕ → State
shift_link s up i = with_linked_column s (link_step s.wiring up i s.devices.linked)

unfoldable pub link_steps : Wiring → Bool → ℕ → ℕ → List ℕ → List ℕ
link_steps w up a zero col = col
link_steps w up a (suc k) col = link_step w up (a + k) (link_steps w up a k col)

unfoldable pub shift_links : State → Bool → ℕ → ℕ → State
shift_links s up a k = with_linked_column s (link_steps s.wiring up a k s.devices.linked)

-- the links from where the index has p's first to where it has the next device's; an index that leads past the links is none of theirs
unfoldable pub shift_links_by : List ℕ → State → ℕ → Bool → State
shift_links_by first s p up =
    let a = get_or first p 0 in
    let b = get_or first (p + 1) 0 in
    when ltb LINKS b then s else shift_links s up a (b - a)

-- the status cell of p, and the counts by the index, whatever they were
unfoldable pub turned_by : List ℕ → State → ℕ → ℕ → State
turned_by first s p v =
    let t = with_status_cell s p v in
    when beq (powered (status_at s p)) (powered v) then t else shift_links_by first (shift_child t p (powered v)) p (powered v)

-- the status of p becomes v: in a ready state with its index the counts are in line again; in any other the cells change as the code does
pub record Turned (p v : ℕ) (first bytes₀ words₀ bytes words : List ℕ) : Type 0 where
  pub is : Indexed (state_in bytes₀ words₀) first → p < (state_in bytes₀ words₀).wiring.n → state_in bytes words ≡ with_status (state_in bytes₀ words₀) p v
  pub any : state_in bytes words ≡ turned_by first (state_in bytes₀ words₀) p v

-- ---- what it amounts to
-- a count one more, or one less
unfoldable pub next : Bool → ℕ → ℕ
next up x = when up then x + 1 else x - 1

-- the test t at i alone
unfoldable pub only : ℕ → (ℕ → Bool) → ℕ → Bool
only i t k = eqb k i and t k

-- device k has a parent
unfoldable pub has_parent : List ℕ → ℕ → Bool
has_parent parent k = not (eqb (get_or parent k 0) NONE)

-- from f to g, the numbers that pass t turn up, or turn down, and the others stay
pub record Turns (t : ℕ → Bool) (up : Bool) (f g : ℕ → Bool) : Type 0 where
  pub from : (k : ℕ) → t k ≡ true → f k ≡ not up
  pub to : (k : ℕ) → t k ≡ true → g k ≡ up
  pub rest : (k : ℕ) → t k ≡ false → f k ≡ g k

-- a column that has the tally of f by the key at entry has that of g at exit
pub record Follows (t : ℕ → Bool) (up : Bool) (key : List ℕ) (n : ℕ) (entry exit : List ℕ) : Type 0 where
  pub follows : (f g : ℕ → Bool) → Turns t up f g → entry ≡ column (tally f (λ k. get_or key k 0) n) ROWS → exit ≡ column (tally g (λ k. get_or key k 0) n) ROWS
