-- The tests, joined, are those of the definition. Assumes nothing.
use Rattle.model.specs.Requests.{parent_down}
use Rattle.request_set.proofs.parent_down.Goals as goal

pub returns : goal.returns
unfolding parent_down
returns c = λ words. rw (← c.parent-q.ensures words, ← c.ignore.ensures words, ← c.status.ensures words)
