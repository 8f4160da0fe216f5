-- `write_program::refusal` meets its contract. Assumes nothing.
use Rattle.write_program.proofs.Ending.{in_no_line, in_a_line}
use Rattle.write_program.proofs.refusal.Goals as goal

-- a fault that stands in no line
pub returns-then-line-eq0 : goal.returns-then-line-eq0
returns-then-line-eq0 c =
    in_no_line _ c.from-number.ensures c.from-index.ensures c.if-line-eq0.true c.nowhere.ensures

-- one that does
pub returns : goal.returns
returns c =
    in_a_line _ c.from-number.ensures c.from-index.ensures c.if-line-eq0.false c.refused.ensures
