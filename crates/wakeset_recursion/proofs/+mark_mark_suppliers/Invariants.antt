-- A call for p is above every call for a lower device, and above its own links.
use Prim.Native.Nat.{◌+◌, ◌-◌, ◌*◌}
use Rattle.model.specs.Limits.{LINKS}
use Rattle.wakeset_recursion.proofs.+mark_mark_suppliers.Given as goal

abbrev pub decreases-mark : goal.decreases-mark
decreases-mark l = l.p * (LINKS + 2) + (LINKS + 1)

abbrev pub decreases-mark_suppliers : goal.decreases-mark_suppliers
decreases-mark_suppliers l = l.p * (LINKS + 2) + (LINKS - l.k)
