-- The sweep leaves the marks of the wake set; a powered device's set is empty. Assumes nothing.
use Rattle.model.specs.Limits.{ROWS}
use Rattle.wakeset.proofs.Members.{powered_marks, wake_marks_lem}
use Rattle.wakeset.proofs.wake_set.Goals as goal

-- t is powered
pub returns-then-status-ge-ACTIVE : goal.returns-then-status-ge-ACTIVE
unfolding ROWS
returns-then-status-ge-ACTIVE c = powered_marks (λ words. rw (c.status.ensures words) at c.if-status-ge-ACTIVE.true)

-- t sleeps
pub returns : goal.returns
unfolding ROWS
returns c = wake_marks_lem (λ words. rw (c.status.ensures words) at c.if-status-ge-ACTIVE.false) c.sweep.ensures
