-- What a line of a list of parts and links says. Assumes nothing.
use Rattle.std.specs.Prelude.{List, Result, Ok, Err, ℕ, eqb, length}
use Rattle.std.specs.Str.{bytes_eq}
use Rattle.model.specs.Logic.{when◌then◌else◌}
use Rattle.replay_text.specs.Text.{ascii}
use Rattle.list_words.specs.Words.{word_in}
use Rattle.list_lines.specs.Numbers.{number_in, parent_in, both}
use Rattle.list_lines.specs.declared.entries.Entry.{Entry}
use Rattle.list_lines.specs.declared.entries.Entry.TheVariants.{Nothing, Part, Link}
use Rattle.list_lines.specs.declared.entries.Fault.{Fault}
use Rattle.list_lines.specs.declared.entries.Fault.TheVariants.{Wrong}

-- the part of two numbers, and the link of three; the worst of their faults where not each is one and at most 255
abbrev pub part_of : Result (ℕ × ℕ) Fault → Result Entry Fault
part_of (Ok (parent, flags)) = Ok (Part parent flags)
part_of (Err f) = Err f

abbrev pub link_of : Result (ℕ × (ℕ × ℕ)) Fault → Result Entry Fault
link_of (Ok (consumer, (supplier, flags))) = Ok (Link consumer supplier flags)
link_of (Err f) = Err f

-- part PARENT FLAGS, and no word more; a word that is missing is empty, which is no number
unfoldable pub part_in : List ℕ → Result Entry Fault
part_in line = when eqb (length (word_in line 3)) 0 then part_of (both (parent_in (word_in line 1)) (number_in (word_in line 2))) else Err Wrong

-- link CONSUMER SUPPLIER FLAGS, and no word more
unfoldable pub link_in : List ℕ → Result Entry Fault
link_in line =
    when eqb (length (word_in line 4)) 0
    then link_of (both (number_in (word_in line 1)) (both (number_in (word_in line 2)) (number_in (word_in line 3))))
    else Err Wrong

-- a line without a word says nothing; else the first word tells a part from a link
unfoldable pub entry_in : List ℕ → Result Entry Fault
entry_in line =
    when eqb (length (word_in line 0)) 0 then Ok Nothing
    else when bytes_eq (word_in line 0) (ascii "part") then part_in line
    else when bytes_eq (word_in line 0) (ascii "link") then link_in line
    else Err Wrong
