-- Lines by computation. Assumes nothing.
use mathlib.Core.Path.{◌≡◌, refl}
use Rattle.std.specs.Prelude.{Ok, Err}
use Rattle.model.specs.Logic.{when◌then◌else◌}
use Rattle.replay_text.specs.Text.{ascii}
use Rattle.replay_text.specs.Sizes.{is_digit, all_digits, value_after}
use Rattle.list_words.specs.Words.{is_blank, word_at, word_in}
use Rattle.list_lines.specs.Numbers.{capped, number_in, parent_in}
use Rattle.list_lines.specs.Lines.{part_in, link_in, entry_in}
use Rattle.list_lines.specs.declared.entries.Entry.TheVariants.{Nothing, Part, Link}
use Rattle.list_lines.specs.declared.entries.Fault.TheVariants.{Large, Wrong}

-- blanks of each kind, a comment, zeros in front, no word at all
taken :
    (entry_in (ascii "\tpart  none 3\r# the root") ≡ Ok (Part 255 3)) × (entry_in (ascii "part 0 00255#") ≡ Ok (Part 0 255))
    × (entry_in (ascii "link 2 1 7") ≡ Ok (Link 2 1 7)) × (entry_in (ascii " # part 0 1") ≡ Ok Nothing) × (entry_in (ascii "") ≡ Ok Nothing)
unfolding ascii when◌then◌else◌ is_digit all_digits value_after is_blank word_at word_in capped number_in parent_in part_in link_in entry_in
taken = (refl, refl, refl, refl, refl)

-- a number over 255; beside it a word that is no number
large :
    (entry_in (ascii "part 256 0") ≡ Err Large) × (entry_in (ascii "link 0 1 99999999999999999999999") ≡ Err Large)
    × (entry_in (ascii "part 256 x") ≡ Err Wrong)
unfolding ascii when◌then◌else◌ is_digit all_digits value_after is_blank word_at word_in capped number_in parent_in part_in link_in entry_in
large = (refl, refl, refl)

-- a word too few, a word too many, `none` for flags or for a supplier, a sign, another first word
wrong :
    (entry_in (ascii "part 1") ≡ Err Wrong) × (entry_in (ascii "part 1 2 3") ≡ Err Wrong) × (entry_in (ascii "link 1 2") ≡ Err Wrong)
    × (entry_in (ascii "link 1 2 3 4") ≡ Err Wrong) × (entry_in (ascii "part 1 none") ≡ Err Wrong) × (entry_in (ascii "link 1 none 0") ≡ Err Wrong)
    × (entry_in (ascii "part 1 -2") ≡ Err Wrong) × (entry_in (ascii "parts 1 2") ≡ Err Wrong)
unfolding ascii when◌then◌else◌ is_digit all_digits value_after is_blank word_at word_in capped number_in parent_in part_in link_in entry_in
wrong = (refl, refl, refl, refl, refl, refl, refl, refl)
