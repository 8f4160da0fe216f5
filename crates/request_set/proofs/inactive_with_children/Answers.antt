-- The two tests, joined, are those of the definition. Assumes nothing.
use Rattle.request_set.specs.Sets.{inactive_with_children}
use Rattle.request_set.proofs.inactive_with_children.Goals as goal

pub returns : goal.returns
unfolding inactive_with_children
returns c = λ words. rw (← c.status.ensures words, ← c.children.ensures words)
