-- `sound_rules::link_rests` meets its contract. Assumes nothing.
use Rattle.sound_rules.specs.Parts.{link_rests}
use Rattle.sound_rules.proofs.Reading.{or_implies}
use Rattle.sound_rules.proofs.link_rests.Goals as goal

pub returns : goal.returns
unfolding link_rests
returns c = or_implies _ _ _
