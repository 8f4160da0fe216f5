-- The two exits are the two cases of the definition. Assumes nothing.
use borrow.Author.Tests.{eq-eqb, ne_eqb}
use Rattle.model.specs.Logic.{when◌then◌else◌}
use Rattle.model.specs.Limits.{NONE}
use Rattle.counts.specs.Shifts.{shift_child}
use Rattle.counts.proofs.shift_child.Goals as goal

-- p has no parent
pub returns-then-q : goal.returns-then-q
unfolding shift_child when◌then◌else◌
returns-then-q c = λ words. rw (← c.parent-q.ensures, eq-eqb _ NONE c.if-q.true)

-- its count is the next one
pub returns : goal.returns
unfolding shift_child when◌then◌else◌
returns c =
    λ words.
    rw (c.set_children.ensures, c.next_children.ensures, ← c.parent-q.ensures, ← c.children-old.ensures, ne_eqb _ NONE c.if-q.false)
