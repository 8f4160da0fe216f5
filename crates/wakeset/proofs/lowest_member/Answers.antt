-- The sweep leaves the marks of the wake set and answers with the lowest. Assumes nothing.
use mathlib.Core.List.{List}
use Prim.Native.Nat.{ℕ}
use Rattle.model.specs.Limits.{ROWS}
use Rattle.wakeset.proofs.Members.{lowest_asleep}
use Rattle.wakeset.proofs.lowest_member.Goals as goal

-- t is powered
pub returns-then-status-ge-ACTIVE : goal.returns-then-status-ge-ACTIVE
returns-then-status-ge-ACTIVE c = λ words. rw (c.status.ensures words) at c.if-status-ge-ACTIVE.true

-- t sleeps
pub returns : goal.returns
unfolding ROWS
returns c =
    let asleep = λ (words : List ℕ). rw (c.status.ensures words) at c.if-status-ge-ACTIVE.false in
    (asleep, lowest_asleep asleep c.sweep.ensures)
