-- The tests, joined, are those of the definition. Assumes nothing.
use Rattle.request_set.specs.Sets.{link_down}
use Rattle.request_set.proofs.link_down.Goals as goal

pub returns : goal.returns
unfolding link_down
returns c = λ words. rw (← c.flags.ensures words, ← c.supplier-q.ensures words, ← c.status.ensures words)
