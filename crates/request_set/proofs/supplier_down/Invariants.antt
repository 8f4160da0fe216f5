-- The invariant: no link passed has its supplier down; the links of p are those between two rows of the index. Assumes nothing.
use mathlib.Core.Path.{◌≡◌}
use mathlib.Core.Bool.{false}
use mathlib.Core.List.{List}
use Prim.Native.Nat.{ℕ, ◌<◌, ◌≤◌}
use Rattle.memory.specs.Layout.{state_in}
use Rattle.request_set.specs.Sets.{link_down}
use Rattle.request_set.proofs.supplier_down.Given as goal

abbrev pub invariant-loop-i : goal.invariant-loop-i
invariant-loop-i l = (words : List ℕ) (j : ℕ) → l.begin ≤ j → j < l.i → link_down (state_in l.bytes words) j ≡ false
