-- Both exits by the definition. Assumes nothing.
use Rattle.model.specs.Logic.{when◌then◌else◌}
use Rattle.basics.proofs.choose.Goals as goal

-- the test holds
pub returns-then-test : goal.returns-then-test
unfolding when◌then◌else◌
returns-then-test g c = rw c.if-test.true

-- it does not
pub returns-else-test : goal.returns-else-test
unfolding when◌then◌else◌
returns-else-test g c = rw c.if-test.false
