-- `test_words::digits` meets its contract. The invariant: the digits that are left give, after the number so far, what all of them give.
-- Assumes nothing.
use mathlib.Core.Path.{refl, sym, ◌∙◌}
use native.Mathlib.Omega.{arith}
use Rattle.test_words.proofs.Reading.{joined_low, value_on, value_end}
use Rattle.test_words.proofs.digits.Goals as goal

pub loop-b-init : goal.loop-b-init
loop-b-init c = (omega arith, refl)

pub loop-b-preserved : goal.loop-b-preserved
loop-b-preserved c =
    let s = c.args.s.now in
    let read = rw c.digit.ensures at c.joined-v.ensures in
    (rw c.joined-v.ensures (joined_low _ _), rw read (value_on s c.loop-b.b-index c.loop-b.v c.loop-b-test.true) ∙ c.loop-b.invariant.1)

-- every digit is read
pub returns : goal.returns
returns c =
    let at = c.loop-b in
    sym (value_end c.args.s.now at.b-index at.v c.loop-b-test.false) ∙ at.invariant.1
