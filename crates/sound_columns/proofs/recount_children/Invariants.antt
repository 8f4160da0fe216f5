-- `sound_columns::recount_children` meets its contract. The invariant: the tallies of the devices passed. Assumes nothing.
use mathlib.Core.List.{List}
use Prim.Native.Nat.{ℕ}
use lib.ListN.{get_or}
use Rattle.model.specs.Limits.{ROWS}
use Rattle.model.specs.State.{State, is_child}
use Rattle.model.proofs.Tallies.{Tallied}
use Rattle.memory.specs.Layout.{state_in}
use Rattle.sound_columns.proofs.recount_children.Given as goal

-- the counts after k devices
abbrev pub Passed : State → ℕ → List ℕ → Type 0
Passed s k counts = Tallied (is_child s.wiring s.devices.status) (λ j. get_or s.wiring.parent j 0) ROWS k counts

abbrev pub invariant-loop-k : goal.invariant-loop-k
invariant-loop-k l = (words : List ℕ) → Passed (state_in l.bytes words) l.k l.counts
