-- `replay_text::line::start` meets its contract: the empty line is all zeros. Assumes nothing.
use mathlib.Core.Path.{refl}
use Rattle.replay_text.specs.Line.{line_of}
use Rattle.replay_text.proofs.line.start.Goals as goal

-- the one exit
pub returns : goal.returns
unfolding line_of
returns c = refl
