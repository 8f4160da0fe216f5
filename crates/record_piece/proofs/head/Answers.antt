-- The four bytes in turn. Assumes nothing.
use Rattle.record_piece.proofs.head.Goals as goal

pub returns : goal.returns
returns c =
    rw (c.byte-a.ensures, c.byte-b.ensures, c.byte-c.ensures, c.byte-d.ensures)
