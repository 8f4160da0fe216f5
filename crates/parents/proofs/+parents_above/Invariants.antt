-- A parent's number is lower.
use Rattle.parents.proofs.+parents_above.Given as goal

abbrev pub decreases-parents_above : goal.decreases-parents_above
decreases-parents_above l = l.p
