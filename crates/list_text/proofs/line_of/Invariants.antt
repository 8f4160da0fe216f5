-- `list_text::line_of` meets its contract. The invariant: among the lines that are left, counted on, the entry has those ahead of it that are
-- still to be passed. Assumes nothing.
use Prim.Native.Nat.{◌+◌, ◌-◌}
use lib.ListN.{length}
use Rattle.list_text.proofs.Numbering.{Looking}
use Rattle.list_text.proofs.line_of.Given as goal

abbrev pub invariant-loop-start : goal.invariant-loop-start
invariant-loop-start l = Looking l.link l.text l.k l.ahead l.start l.number

abbrev pub decreases-loop-start : goal.decreases-loop-start
decreases-loop-start l = length l.text + 1 - l.start
