-- Lines by the places where they start and stop: the words of the contracts within. Assumes nothing.
use Rattle.std.specs.Prelude.{◌≡◌, Bool, List, [], ◌∷◌, Result, Ok, ℕ, suc, ◌+◌, ◌≤◌, ◌<◌, eqb, leb, length, drop}
use Rattle.std.proofs.lemmas.List.Edits.{sets}
use Rattle.model.specs.Logic.{when◌then◌else◌}
use Rattle.list_lines.specs.declared.entries.Entry.{Entry}
use Rattle.list_lines.specs.declared.entries.Entry.TheVariants.{Nothing}
use Rattle.list_lines.specs.declared.entries.Fault.{Fault}
use Rattle.list_text.specs.Texts.{entries_of, bytes_of}

-- how many bytes stand before the first line feed
unfoldable pub before : List ℕ → ℕ
before [] = 0
before (b ∷ text) = when eqb b 10 then 0 else suc (before text)

-- what the lines from a place on stand for; past the end there is no line
unfoldable pub entries_from : ℕ → List ℕ → List (Result Entry Fault)
entries_from i text = when leb i (length text) then entries_of (drop i text) else []

-- the line that starts at a place stops at another: at its line feed, or at the end
pub record Stopped (text : List ℕ) (start stop : ℕ) : Type 0 where
  pub is : stop ≡ start + before (drop start text)
  pub low : start ≤ stop
  pub high : stop ≤ length text

-- the line that starts at a place: what it stands for, and where the line after it starts; an empty line stands for nothing
pub record Read (text : List ℕ) (start : ℕ) (entry : Result Entry Fault) (next : ℕ) : Type 0 where
  pub low : start < next
  pub high : next ≤ length text + 1
  pub first : entries_from start text ≡ entry ∷ entries_from next text
  pub empty : next ≡ start + 1 → entry ≡ Ok Nothing

-- the bytes of a line of a sort stored from a place on, as far as there is room
pub record Stored (link : Bool) (entry : Result Entry Fault) (at : ℕ) (before : List ℕ) (next : ℕ) (after : List ℕ) : Type 0 where
  pub place : next ≡ at + length (bytes_of link entry)
  pub buffer : after ≡ sets before at (bytes_of link entry)
