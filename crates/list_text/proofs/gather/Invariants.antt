-- `list_text::gather` meets its contract. The invariant: the bytes of the lines that are left, stored after those of the lines passed, make what
-- is asked for. They are few enough to be counted, since a line with three bytes has two places of the text at least. Assumes nothing.
use Prim.Native.Nat.{◌+◌, ◌-◌}
use lib.ListN.{length}
use Rattle.list_text.proofs.Gathering.{Gathering}
use Rattle.list_text.proofs.gather.Given as goal

abbrev pub invariant-loop-start : goal.invariant-loop-start
invariant-loop-start l = Gathering l.link l.text l.initial.out l.at l.start l.out

abbrev pub decreases-loop-start : goal.decreases-loop-start
decreases-loop-start l = length l.text + 1 - l.start
