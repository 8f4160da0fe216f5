-- `sound_columns::recount_linked` meets its contract. The invariant: the tallies of the links passed. Assumes nothing.
use mathlib.Core.List.{List}
use Prim.Native.Nat.{ℕ}
use lib.ListN.{get_or}
use Rattle.model.specs.Limits.{ROWS}
use Rattle.model.specs.State.{State, is_live}
use Rattle.model.proofs.Tallies.{Tallied}
use Rattle.memory.specs.Layout.{state_in}
use Rattle.sound_columns.proofs.recount_linked.Given as goal

-- the counts after k links
abbrev pub Passed : State → ℕ → List ℕ → Type 0
Passed s k counts = Tallied (is_live s.wiring s.devices.status) (λ j. get_or s.wiring.supplier j 0) ROWS k counts

abbrev pub invariant-loop-k : goal.invariant-loop-k
invariant-loop-k l = (words : List ℕ) → Passed (state_in l.bytes words) l.k l.counts
