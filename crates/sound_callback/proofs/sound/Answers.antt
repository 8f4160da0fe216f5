-- The index is that of the links. Assumes nothing.
use Rattle.sound_callback.proofs.sound.Goals as goal

pub returns : goal.returns
returns c = c.sound_by.ensures.is c.index-first.ensures
