-- The invariant: the devices from q on are passed (`Swept`). At the lowest mark the sweep is over. Assumes nothing.
use mathlib.Core.List.{List}
use Prim.Native.Nat.{ℕ}
use Rattle.memory.specs.Layout.{state_in}
use Rattle.wakeset.specs.Sweep.{Swept}
use Rattle.wakeset.proofs.sweep.Given as goal

abbrev pub invariant-loop-q : goal.invariant-loop-q
invariant-loop-q l =
    (words : List ℕ) → Swept (state_in l.bytes words) l.first l.t l.t l.initial.marks l.initial.low → Swept (state_in l.bytes words) l.first l.t l.q l.marks l.low
