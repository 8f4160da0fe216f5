-- The two tests of what is read. Assumes nothing.
use Rattle.suspend_test.specs.Parts.{has_children}
use Rattle.suspend_test.proofs.has_children.Goals as goal

pub returns : goal.returns
unfolding has_children
returns c = λ words. rw (c.ignore.ensures words, c.children.ensures words)
