-- The five tests in turn, each by what its function says. Assumes nothing.
use Rattle.sound_callback.specs.Parts.{open_test}
use Rattle.sound_callback.proofs.asked_open.Goals as goal

pub returns : goal.returns
unfolding open_test
returns c =
    let w = c.args.words.now in
    rw (c.devices.ensures w, c.target.ensures w, c.status.ensures w, c.suspend_test.ensures, c.others_steady.ensures.is w, c.asked-p.ensures w)
