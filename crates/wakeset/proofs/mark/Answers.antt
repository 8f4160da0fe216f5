-- The store and the answer are those of `adds_mark`. Assumes nothing.
use mathlib.Core.Path.{refl}
use native.Mathlib.Omega.{arith}
use Rattle.model.specs.Limits.{ROWS}
use Rattle.model.specs.Logic.{when◌then◌else◌}
use Rattle.wakeset.proofs.Adding.{adds_mark}
use Rattle.wakeset.proofs.mark.Goals as goal

-- q is lower, and the test holds
pub returns-then-on-q : goal.returns-then-on-q
unfolding ROWS when◌then◌else◌
returns-then-on-q c = λ long. adds_mark c.from-at.ensures (omega arith) refl (rw c.if-on-q.true)

-- the lowest stays
pub returns-else-on-q : goal.returns-else-on-q
unfolding ROWS when◌then◌else◌
returns-else-on-q c = λ long. adds_mark c.from-at.ensures (omega arith) refl (rw c.if-on-q.false)
