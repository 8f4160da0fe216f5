-- What becomes of the text of a list, and of the buffer for its table. Assumes nothing.
use Rattle.std.specs.Prelude.{◌≡◌, true, false, List, Result, ⊤, Ok, Err, ℕ, eqb, length}
use Rattle.model.specs.Limits.{DEVICES, LINKS}
use Rattle.model.specs.Logic.{when◌then◌else◌}
use Rattle.model.specs.Table.{TableAnswer}
use Rattle.model.specs.Writing.{table_of, Writing, write_of}
use Rattle.list_text.specs.declared.Faulty.{Faulty}
use Rattle.list_text.specs.Texts.{gathered, fault_in, line_number}
use Rattle.list_make.specs.declared.Failure.{Failure}
use Rattle.list_make.specs.declared.Failure.TheVariants.{Line, Refused}

-- the devices and the links of a text, as the writer is given them
abbrev pub listed_devices : List ℕ → List ℕ
listed_devices text = gathered false text

abbrev pub listed_links : List ℕ → List ℕ
listed_links text = gathered true text

abbrev pub writing_in : List ℕ → List ℕ → Writing
writing_in text buffer = write_of (listed_devices text) (listed_links text) buffer

-- the line of the first device past the limit, else that of the first link past it; 0 where there is none
unfoldable pub over_line : List ℕ → ℕ
over_line text = when eqb (line_number false text DEVICES) 0 then line_number true text LINKS else line_number false text DEVICES

-- the line that a refusal stands in: 6 in that of its device, 7 in that of its link
unfoldable pub refused_line : List ℕ → ℕ → ℕ → ℕ
refused_line text number index =
    when eqb number 6 then line_number false text index
    else when eqb number 7 then line_number true text index
    else over_line text

-- an answer of the writer as it is told, with the size of the table
unfoldable pub made_from : List ℕ → TableAnswer → ℕ → Result ℕ Failure
made_from text a size =
    when eqb a.number 0 then Ok size
    else Err (Refused (record { number = a.number; index = a.index; line = refused_line text a.number a.index }))

-- a text whose lines are all of a list's: the writer's answer, and its buffer
pub record Makes (text buffer : List ℕ) (result : Result ℕ Failure) (after : List ℕ) : Type 0 where
  pub made : result ≡ made_from text (writing_in text buffer).answer (length (table_of (listed_devices text) (listed_links text)))
  pub table : after ≡ (writing_in text buffer).buffer

-- any text: the first line that is none of a list's is told, and then the buffer stays
abbrev pub makes_by : Result ⊤ Faulty → (text buffer : List ℕ) → Result ℕ Failure → List ℕ → Type 0
makes_by (Ok _) text buffer made after = Makes text buffer made after
makes_by (Err faulty) text buffer made after = (made ≡ Err (Line faulty)) × (after ≡ buffer)

pub record MakesOf (text buffer : List ℕ) (result : Result ℕ Failure) (after : List ℕ) : Type 0 where
  pub told : makes_by (fault_in text) text buffer result after
