-- Marking joins the device's set to no marks; a powered device's set is empty. Assumes nothing.
use Rattle.model.specs.Limits.{ROWS}
use Rattle.wakeset.proofs.Members.{powered_marks}
use Rattle.wakeset_recursion.proofs.Marking.{wake_marks_lem}
use Rattle.wakeset_recursion.proofs.wake_set.Goals as goal

-- t is powered
pub returns-then-status-ge-ACTIVE : goal.returns-then-status-ge-ACTIVE
unfolding ROWS
returns-then-status-ge-ACTIVE c = powered_marks (λ words. rw (c.status.ensures words) at c.if-status-ge-ACTIVE.true)

-- t sleeps
pub mark-requires : goal.mark-requires
mark-requires c = λ words. rw (c.status.ensures words) at c.if-status-ge-ACTIVE.false

pub returns : goal.returns
unfolding ROWS
returns c = wake_marks_lem c.mark.ensures
