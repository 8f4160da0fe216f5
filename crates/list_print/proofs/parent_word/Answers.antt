-- `list_print::parent_word` meets its contract: each exit is a case of the test. Assumes nothing.
use borrow.Author.Tests.{ne_eqb}
use Rattle.model.specs.Logic.{when◌then◌else◌}
use Rattle.replay_text.specs.Text.{ascii}
use Rattle.list_print.specs.Lines.{parent_text}
use Rattle.list_print.proofs.parent_word.Goals as goal

-- no parent
pub returns-then-parent-eq-NONE : goal.returns-then-parent-eq-NONE
unfolding ascii parent_text when◌then◌else◌
returns-then-parent-eq-NONE c = rw c.if-parent-eq-NONE.true c.word.ensures

-- a device
pub returns : goal.returns
unfolding ascii parent_text when◌then◌else◌
returns c = rw (ne_eqb _ 255 c.if-parent-eq-NONE.false) (rw c.from.ensures at c.number.ensures)
