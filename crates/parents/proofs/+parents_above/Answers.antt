-- `parents::parents_above` meets its contract. The measure is the device's number. Assumes nothing.
use native.Mathlib.Omega.{arith}
use Rattle.parents.proofs.Parents.{above_none, above_one}
use Rattle.parents.proofs.+parents_above.Goals as goal

-- no parent is lower
pub returns-then-p-q : goal.returns-then-p-q
returns-then-p-q t c = above_none c.parent-q.ensures c.if-p-q.true

-- one more than above the parent
pub returns : goal.returns
returns t c = above_one (omega arith) c.parent-q.ensures c.if-p-q.false c.parents_above.ensures
