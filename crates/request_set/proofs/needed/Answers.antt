-- The two tests, joined, are those of the definition. Assumes nothing.
use Rattle.model.specs.Requests.{needed}
use Rattle.suspend_test.specs.Parts.{has_children}
use Rattle.request_set.proofs.needed.Goals as goal

pub returns : goal.returns
unfolding needed has_children
returns c = rw (← c.linked.ensures, c.has_children.ensures c.args.words.now)
