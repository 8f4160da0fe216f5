-- Lines by computation. Assumes nothing.
use mathlib.Core.Path.{◌≡◌, refl}
use Rattle.model.specs.Logic.{when◌then◌else◌}
use Rattle.replay_text.specs.Text.{ascii, digits_up_to, decimal}
use Rattle.list_print.specs.Lines.{parent_text, part_words, part_text, link_words, link_text}

printed :
    (part_text 255 3 ≡ ascii "part none 3\n") × (part_text 0 255 ≡ ascii "part 0 255\n") × (link_text 254 10 9 ≡ ascii "link 254 10 9\n")
unfolding ascii decimal digits_up_to when◌then◌else◌ parent_text part_words part_text link_words link_text
printed = (refl, refl, refl)
