-- The numbers that words of a line stand for. Assumes nothing.
use Rattle.std.specs.Prelude.{List, Result, Ok, Err, ℕ, eqb, leb, length}
use Rattle.std.specs.Str.{bytes_eq}
use Rattle.model.specs.Limits.{NONE}
use Rattle.model.specs.Logic.{when◌then◌else◌}
use Rattle.replay_text.specs.Text.{ascii}
use Rattle.replay_text.specs.Sizes.{all_digits, value_after}
use Rattle.list_lines.specs.declared.entries.Fault.{Fault}
use Rattle.list_lines.specs.declared.entries.Fault.TheVariants.{Large, Wrong}

-- a number as a byte holds it
unfoldable pub capped : ℕ → Result ℕ Fault
capped x = when leb x 255 then Ok x else Err Large

-- the number of a word: decimal digits, one or more
unfoldable pub number_in : List ℕ → Result ℕ Fault
number_in w = when eqb (length w) 0 then Err Wrong else when all_digits w then capped (value_after 0 w) else Err Wrong

-- the number of a word that names a parent, or none
unfoldable pub parent_in : List ℕ → Result ℕ Fault
parent_in w = when bytes_eq w (ascii "none") then Ok NONE else number_in w

-- both of two, or the worse of their faults: a word that is no number is worse than one over 255
abbrev pub both : {A B : Type 0} → Result A Fault → Result B Fault → Result (A × B) Fault
both (Ok a) (Ok b) = Ok (a, b)
both (Ok a) (Err f) = Err f
both (Err f) (Ok b) = Err f
both (Err Large) (Err f) = Err f
both (Err Wrong) (Err f) = Err Wrong
