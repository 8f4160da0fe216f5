-- Lines by computation. Assumes nothing.
use mathlib.Core.Path.{◌≡◌, refl}
use mathlib.Core.Bool.{true, false}
use Rattle.model.specs.Logic.{when◌then◌else◌}
use Rattle.replay_text.specs.Text.{ascii, digits_up_to, decimal}
use Rattle.replay_refusals.specs.Lines.{speaker_text, stopped_text, unsaved_text, unrestored_text}

stopped : stopped_text true 22 ≡ ascii "resume: piece refused 22\n"
unfolding ascii decimal digits_up_to when◌then◌else◌ speaker_text stopped_text
stopped = refl

unsaved : unsaved_text false 21 ≡ ascii "replay: state refused 21\n"
unfolding ascii decimal digits_up_to when◌then◌else◌ speaker_text unsaved_text
unsaved = refl

unrestored : unrestored_text 5 ≡ ascii "state refused 5\n"
unfolding ascii decimal digits_up_to when◌then◌else◌ unrestored_text
unrestored = refl
