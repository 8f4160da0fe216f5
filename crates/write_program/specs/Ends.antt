-- What the program `write` hands to the C library, and how it ends. Assumes nothing.
use Rattle.std.specs.Prelude.{◌≡◌, List, ◌⊎◌, Result, Ok, Err, ℕ, ◌≤◌, eqb, length, take}
use Rattle.model.specs.Logic.{when◌then◌else◌}
use Rattle.model.specs.Writing.{table_of, lists_answer}
use Rattle.replay_text.specs.declared.line.Line.{Line}
use Rattle.replay_text.specs.Line.{line_of}
use Rattle.list_text.specs.Texts.{fault_in}
use Rattle.list_make.specs.Making.{listed_devices, listed_links}
use Rattle.list_make.specs.declared.Failure.{Failure}
use Rattle.list_make.specs.declared.Refusal.{Refusal}
use Rattle.list_report.specs.Lines.{refused_text, nowhere_text}
use Rattle.program_end.specs.declared.End.{End}
use Rattle.program_end.specs.declared.End.TheVariants as end

-- a text whose lines are all of a list's, with lists that are good
pub record Good (text : List ℕ) : Type 0 where
  pub lines : fault_in text ≡ Ok tt
  pub lists : (lists_answer (listed_devices text) (listed_links text)).number ≡ 0

-- the bytes are the table of a good text
pub record TableFor (text table : List ℕ) : Type 0 where
  pub whole : Good text
  pub is : table ≡ table_of (listed_devices text) (listed_links text)

-- the line of a refusal, with the line of the list where there is one
unfoldable pub refusal_line : Refusal → Line
refusal_line r =
    when eqb r.line 0 then line_of (nowhere_text r.number r.index)
    else line_of (refused_text r.number r.index r.line)

-- where a table is made, it stands at the front of the buffer
pub record MadeFor (text : List ℕ) (made : Result ℕ Failure) (buffer : List ℕ) : Type 0 where
  pub room : (size : ℕ) → made ≡ Ok size → size ≤ length buffer
  pub table : (size : ℕ) → made ≡ Ok size → TableFor text (take size buffer)

-- a list that has become a table ends with 0, any other with 1; 3 where a file fails
abbrev pub ends_by : Result ℕ Failure → End → Type 0
ends_by (Ok size) r = (r ≡ end.Done) ⊎ (r ≡ end.Failed)
ends_by (Err failure) r = (r ≡ end.Refused) ⊎ (r ≡ end.Failed)

pub record EndsBy (made : Result ℕ Failure) (r : End) : Type 0 where
  pub ends : ends_by made r

-- a good text ends with 0 or 3, and no other with 0
pub record ListEnds (text : List ℕ) (r : End) : Type 0 where
  pub good : Good text → (r ≡ end.Done) ⊎ (r ≡ end.Failed)
  pub done : r ≡ end.Done → Good text
