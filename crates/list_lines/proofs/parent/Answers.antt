-- `list_lines::parent` meets its contract: each exit is a case of the test. Assumes nothing.
use Rattle.replay_text.specs.Text.{ascii}
use Rattle.list_lines.proofs.Judging.{parent_none, parent_number}
use Rattle.list_lines.proofs.parent.Goals as goal

-- no parent
pub returns-then-eq : goal.returns-then-eq
unfolding ascii
returns-then-eq c = parent_none _ c.as_slice.ensures c.eq.ensures c.if-eq.true

-- a number
pub returns : goal.returns
unfolding ascii
returns c = parent_number _ c.as_slice.ensures c.eq.ensures c.if-eq.false c.number.ensures
