-- `sound_rules::child_rests` meets its contract. Assumes nothing.
use Rattle.sound_rules.specs.Parts.{child_rests}
use Rattle.sound_rules.proofs.Reading.{or_or_implies}
use Rattle.sound_rules.proofs.child_rests.Goals as goal

pub returns : goal.returns
unfolding child_rests
returns c = or_or_implies _ _ _ _
