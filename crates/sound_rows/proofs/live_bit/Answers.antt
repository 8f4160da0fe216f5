-- `sound_rows::live_bit` meets its contract: the test as a number. Assumes nothing.
use mathlib.Core.Path.{◌∙◌}
use Rattle.sound_rows.specs.Parts.{live_bit}
use Rattle.sound_rows.proofs.Reading.{byte_bit}
use Rattle.sound_rows.proofs.live_bit.Goals as goal

pub returns : goal.returns
unfolding live_bit
returns c = c.from.ensures ∙ byte_bit _
