-- `list_text::fault_in` meets its contract. The invariant: the lines that are left, counted on, have the fault that all lines have.
-- Assumes nothing.
use Prim.Native.Nat.{◌+◌, ◌-◌}
use lib.ListN.{length}
use Rattle.list_text.proofs.Numbering.{Faulting}
use Rattle.list_text.proofs.fault_in.Given as goal

abbrev pub invariant-loop-start : goal.invariant-loop-start
invariant-loop-start l = Faulting l.text l.start l.number

abbrev pub decreases-loop-start : goal.decreases-loop-start
decreases-loop-start l = length l.text + 1 - l.start
