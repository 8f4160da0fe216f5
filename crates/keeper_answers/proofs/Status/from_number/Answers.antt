-- `keeper_answers::Status::from_number` meets its contract. Assumes nothing.
use Rattle.std.proofs.Common.{◌≢◌}
use native.Mathlib.Omega.{arith}
use borrow.Author.Tests.{ne_eqb}
use Rattle.model.specs.Logic.{when◌then◌else◌}
use Rattle.keeper_answers.proofs.Status.from_number.Goals as goal

-- 0, 1 and 2
pub returns-in-0 : goal.returns-in-0
unfolding when◌then◌else◌
returns-in-0 c = rw c.in-0.is

pub returns-in-1 : goal.returns-in-1
unfolding when◌then◌else◌
returns-in-1 c = rw c.in-1.is

pub returns-in-2 : goal.returns-in-2
unfolding when◌then◌else◌
returns-in-2 c = rw c.in-2.is

-- any other number
pub returns-in_default : goal.returns-in_default
unfolding when◌then◌else◌
returns-in_default c =
    let zero : c.args.x ≢ 0 = omega arith in
    let one : c.args.x ≢ 1 = omega arith in
    let two : c.args.x ≢ 2 = omega arith in
    rw (ne_eqb _ 0 zero, ne_eqb _ 1 one, ne_eqb _ 2 two)
