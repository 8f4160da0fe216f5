-- `c_host::keep` meets its contract: the two arrays of the bench are written. Assumes nothing.
use Rattle.c_host.proofs.keep.Goals as goal

pub returns : goal.returns
returns c = c.write.ensures
