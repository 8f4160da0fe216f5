-- Each choice is a test of the definition, the last first. Assumes nothing.
use Rattle.model.specs.Requests.{suspend_test}
use Rattle.suspend_test.specs.Parts.{has_children}
use Rattle.suspend_test.proofs.suspend_test.Goals as goal

pub returns : goal.returns
unfolding suspend_test has_children
returns c =
    let w = c.args.words.now in
    let b = c.args.bytes.now in
    rw (c.choose.ensures, c.error.ensures b, c.choose-off.ensures, c.depth.ensures w, c.choose-used.ensures)
    (rw (c.usage.ensures, c.linked.ensures b, c.holds.ensures b, c.choose-needed.ensures, c.has_children.ensures w))
