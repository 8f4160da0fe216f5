-- Each field of the row is what the state has of the device. Assumes nothing.
use Rattle.replay_pieces.proofs.lines.device.Goals as goal

pub returns : goal.returns
returns c =
    rw (← c.error-error.ensures, ← c.depth-depth.ensures, ← c.children-children.ensures, ← c.linked-linked.ensures)
    (rw (← c.holds-holds.ensures, ← c.status-status.ensures) c.device.ensures)
