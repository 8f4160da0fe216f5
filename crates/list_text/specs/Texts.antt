-- The text of a list, in any number of lines: what its lines give together. Assumes nothing.
use Rattle.std.specs.Prelude.{◌≡◌, Bool, true, false, List, [], ◌∷◌, ◌++◌, map, Result, ⊤, Ok, Err, ℕ, suc, eqb, ltb, length, get_or, take, drop}
use Rattle.model.specs.Logic.{when◌then◌else◌}
use Rattle.list_lines.specs.declared.entries.Entry.{Entry}
use Rattle.list_lines.specs.declared.entries.Entry.TheVariants.{Nothing, Part, Link}
use Rattle.list_lines.specs.declared.entries.Fault.{Fault}
use Rattle.list_lines.specs.Lines.{entry_in}
use Rattle.list_text.specs.declared.Faulty.{Faulty}

-- ---- lines
-- a byte in front of the first line
unfoldable pub in_front : ℕ → List (List ℕ) → List (List ℕ)
in_front b [] = (b ∷ []) ∷ []
in_front b (line ∷ lines) = (b ∷ line) ∷ lines

-- the text cut at each line feed, which is 10: a text without one is one line
unfoldable pub lines_of : List ℕ → List (List ℕ)
lines_of [] = [] ∷ []
lines_of (b ∷ text) = when eqb b 10 then [] ∷ lines_of text else in_front b (lines_of text)

-- what each line stands for
unfoldable pub entries_of : List ℕ → List (Result Entry Fault)
entries_of text = map entry_in (lines_of text)

-- ---- parts and links
-- the two bytes of a part, none of any other line
unfoldable pub part_bytes : Result Entry Fault → List ℕ
part_bytes (Ok Nothing) = []
part_bytes (Ok (Part a b)) = a ∷ b ∷ []
part_bytes (Ok (Link a b c)) = []
part_bytes (Err fault) = []

-- the three bytes of a link, none of any other line
unfoldable pub link_bytes : Result Entry Fault → List ℕ
link_bytes (Ok Nothing) = []
link_bytes (Ok (Part a b)) = []
link_bytes (Ok (Link a b c)) = a ∷ b ∷ c ∷ []
link_bytes (Err fault) = []

-- the bytes of a line of a sort: false for parts, true for links
unfoldable pub bytes_of : Bool → Result Entry Fault → List ℕ
bytes_of false entry = part_bytes entry
bytes_of true entry = link_bytes entry

-- the bytes of the entries of a sort, in their order
unfoldable pub bytes_in : Bool → List (Result Entry Fault) → List ℕ
bytes_in link [] = []
bytes_in link (entry ∷ entries) = bytes_of link entry ++ bytes_in link entries

-- the bytes of all entries of a sort in a text
unfoldable pub gathered : Bool → List ℕ → List ℕ
gathered link text = bytes_in link (entries_of text)

-- bytes at the front of a buffer, as far as it has room; the rest of it as it was
unfoldable pub at_front : List ℕ → List ℕ → List ℕ
at_front bytes buffer = take (length buffer) bytes ++ drop (length bytes) buffer

-- what is gathered of a sort: how many bytes, and the buffer after it
pub record Gathered (link : Bool) (text before : List ℕ) (many : ℕ) (after : List ℕ) : Type 0 where
  pub bytes : many ≡ length (gathered link text)
  pub buffer : after ≡ at_front (gathered link text) before

-- ---- numbers of lines: n is that of the first entry's
-- the first line that is none of a list's
unfoldable pub fault_from : ℕ → List (Result Entry Fault) → Result ⊤ Faulty
fault_from n [] = Ok tt
fault_from n (Ok entry ∷ entries) = fault_from (suc n) entries
fault_from n (Err fault ∷ entries) = Err (record { fault = fault; line = n })

-- the first line of a text that is none of a list's; the first line has number 1
unfoldable pub fault_in : List ℕ → Result ⊤ Faulty
fault_in text = fault_from 1 (entries_of text)

-- an entry is of a sort where it has bytes of that sort
unfoldable pub is_of : Bool → Result Entry Fault → Bool
is_of link entry = ltb 0 (length (bytes_of link entry))

-- the numbers of the lines with an entry of a sort
unfoldable pub numbers_from : Bool → ℕ → List (Result Entry Fault) → List ℕ
numbers_from link n [] = []
numbers_from link n (entry ∷ entries) = when is_of link entry then n ∷ numbers_from link (suc n) entries else numbers_from link (suc n) entries

-- the line of entry k of a sort, from 0; 0 where there are not so many
unfoldable pub line_number : Bool → List ℕ → ℕ → ℕ
line_number link text k = get_or (numbers_from link 1 (entries_of text)) k 0
