-- `links::tallies` meets its contract. The invariant: the links passed are counted. Assumes nothing.
use mathlib.Core.List.{List}
use Prim.Native.Nat.{ℕ}
use Rattle.memory.specs.Layout.{state_in}
use Rattle.links.specs.Firsts.{Tallied}
use Rattle.links.proofs.tallies.Given as goal

abbrev pub invariant-loop-i : goal.invariant-loop-i
invariant-loop-i l = (words : List ℕ) → Tallied (state_in l.bytes words).wiring.consumer l.i l.first
