-- Both exits by the contract. Assumes nothing.
use mathlib.Core.Path.{refl}
use Rattle.request_suspend.proofs.put_first.Goals as goal

-- kind 6
pub returns-then-kind-eq6 : goal.returns-then-kind-eq6
returns-then-kind-eq6 c = record { puts = λ e. c.put.ensures; none = λ n. absurd (n c.if-kind-eq6.true) }

-- another kind
pub returns : goal.returns
returns c = record { puts = λ e. absurd (c.if-kind-eq6.false e); none = λ n. (refl, refl) }
