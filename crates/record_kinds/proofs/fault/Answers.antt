-- Each exit is one test of the chain; those before it failed. Assumes nothing.
use Rattle.model.specs.Logic.{when◌then◌else◌}
use borrow.Author.Tests.{le-leb, lt-leb}
use Rattle.model.specs.Records.{LAST, fault}
use Rattle.record_kinds.proofs.fault.Goals as goal
use Rattle.record_kinds.proofs.fault.Goals.{then-r-lt1-via-then-r-lt1, then-r-lt1-via-else-r-lt1+then-r-gt-LAST}
use Rattle.record_kinds.proofs.fault.Goals.{then-n-r-via-then-n-r, then-n-r-via-else-n-r+then-misplaced}

-- kind 0, or a kind past the last
pub returns-then-r-lt1 : goal.returns-then-r-lt1
unfolding fault when◌then◌else◌
returns-then-r-lt1 c =
    elim c.then-r-lt1.branch [
      | then-r-lt1-via-then-r-lt1 w ↦ rw (lt-leb _ _ w.if-r-lt1.true)
      | then-r-lt1-via-else-r-lt1+then-r-gt-LAST w ↦ rw (le-leb _ _ w.if-r-lt1.false, lt-leb c.args.r.kind LAST w.if-r-gt-LAST.true)
    ]

-- no such device, or another one for a kind about the whole bench
pub returns-then-n-r : goal.returns-then-n-r
unfolding fault when◌then◌else◌
returns-then-n-r c =
    elim c.then-n-r.branch [
      | then-n-r-via-then-n-r w ↦ rw (le-leb _ _ c.if-r-lt1.false, le-leb _ _ c.if-r-gt-LAST.false, le-leb c.args.n c.args.r.device w.if-n-r.true)
      | then-n-r-via-else-n-r+then-misplaced w ↦
          rw (le-leb _ _ c.if-r-lt1.false, le-leb _ _ c.if-r-gt-LAST.false, lt-leb _ _ w.if-n-r.false, ← w.misplaced.ensures, w.if-misplaced.true)
    ]

-- a value beyond its kind's bounds
pub returns-then-not-allowed : goal.returns-then-not-allowed
unfolding fault when◌then◌else◌
returns-then-not-allowed c =
    rw (le-leb _ _ c.if-r-lt1.false, le-leb _ _ c.if-r-gt-LAST.false, lt-leb _ _ c.if-n-r.false, ← c.misplaced.ensures, c.if-misplaced.false)
    (rw (← c.allowed.ensures, c.if-not-allowed.true))

-- well formed
pub returns : goal.returns
unfolding fault when◌then◌else◌
returns c =
    rw (le-leb _ _ c.if-r-lt1.false, le-leb _ _ c.if-r-gt-LAST.false, lt-leb _ _ c.if-n-r.false, ← c.misplaced.ensures, c.if-misplaced.false)
    (rw (← c.allowed.ensures, c.if-not-allowed.false))
