-- Lines by computation. Assumes nothing.
use mathlib.Core.Path.{◌≡◌, refl}
use Rattle.model.specs.Logic.{when◌then◌else◌}
use Rattle.replay_text.specs.Text.{ascii, digits_up_to, decimal}
use Rattle.replay_row.specs.Rows.{status_text, sign_text, device_text}

failed : device_text 2 3 32767 63 100 255 4095 ≡ ascii "device 2 status suspending usage 32830 children 100 holds 32767 depth 255 error -4095\n"
unfolding ascii decimal digits_up_to when◌then◌else◌ status_text sign_text device_text
failed = refl

loaded : device_text 0 0 0 0 0 1 0 ≡ ascii "device 0 status suspended usage 0 children 0 holds 0 depth 1 error 0\n"
unfolding ascii decimal digits_up_to when◌then◌else◌ status_text sign_text device_text
loaded = refl
