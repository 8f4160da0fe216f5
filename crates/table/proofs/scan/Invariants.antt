-- `table::scan` meets its contract. The invariant: the entries passed are good. Assumes nothing.
use Prim.Native.Nat.{◌+◌, ◌-◌}
use Rattle.table.proofs.Scanning.{Passed}
use Rattle.table.proofs.scan.Given as goal

abbrev pub invariant-entries : goal.invariant-entries
invariant-entries l = Passed l.t l.devices l.links l.p l.i

abbrev pub decreases-entries : goal.decreases-entries
decreases-entries l = l.devices - l.p + (l.links - l.i)
