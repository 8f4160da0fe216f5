-- Lines by computation. Assumes nothing.
use mathlib.Core.Path.{◌≡◌, refl}
use Rattle.model.specs.Logic.{when◌then◌else◌}
use Rattle.replay_text.specs.Text.{ascii, digits_up_to, decimal}
use Rattle.replay_report.specs.Lines.{refused_text, replies_text, callback_text}

refused : refused_text (record { number = 7; index = 127 }) ≡ ascii "table refused 7 127\n"
unfolding ascii decimal digits_up_to when◌then◌else◌ refused_text
refused = refl

most_replies : replies_text 18446744073709551615 ≡ ascii "replies 18446744073709551615\n"
unfolding ascii decimal digits_up_to when◌then◌else◌ replies_text
most_replies = refl

waking : callback_text 2 0 10 ≡ ascii "callback resume 0 for 10\n"
unfolding ascii decimal digits_up_to when◌then◌else◌ callback_text
waking = refl
