-- The sweep leaves the marks of the wake set and answers with the lowest; the barred marks are read off. Assumes nothing.
use Rattle.model.specs.Limits.{ROWS}
use Rattle.wakeset.proofs.Members.{reaches_powered, reaches_asleep}
use Rattle.wakeset.proofs.reached.Goals as goal

-- t is powered
pub returns-then-status-ge-ACTIVE : goal.returns-then-status-ge-ACTIVE
returns-then-status-ge-ACTIVE c = reaches_powered c.devices.ensures (λ words. rw (c.status.ensures words) at c.if-status-ge-ACTIVE.true)

-- t sleeps
pub returns : goal.returns
unfolding ROWS
returns c =
    reaches_asleep (λ words. rw (c.status.ensures words) at c.if-status-ge-ACTIVE.false) c.sweep-low.ensures c.any_barred-barred.ensures
