-- "Restoring refuses with the empty bench and a number, in this order: under 5 bytes 1, mark 2, version 3, length 5, anything else that is
-- no sound bench's form 21." A version is a table of spans, so that a later version is another table. Assumes nothing.
use Rattle.std.specs.Prelude.{Bool, true, false, not, List, [], ◌∷◌, ◌++◌, ℕ, ◌+◌, ◌*◌, length, get_or, take, drop, replicate, ltb, eqb}
use Rattle.model.specs.Logic.{when◌then◌else◌, ◌and◌}
use Rattle.model.specs.State.{State, empty_state}
use Rattle.model.specs.SoundTest.{sound_test}
use Rattle.memory.specs.Layout.{BYTES, WORDS, area, state_in}
use Rattle.saved_form.specs.declared.Array.{Array}
use Rattle.saved_form.specs.declared.Array.TheVariants.{Bytes, Words}
use Rattle.saved_form.specs.declared.Span.{Span}
use Rattle.saved_form.specs.Words.{words_from}
use Rattle.saved_form.specs.Form.{HEADER}

-- ---- versions
-- all bytes, then all words
abbrev pub version1 : List Span
version1 =
    record { array = Bytes; at = HEADER; cells = BYTES; to = 0 }
    ∷ record { array = Words; at = HEADER + BYTES; cells = WORDS; to = 0 }
    ∷ []

-- a span of words, or one of bytes
abbrev pub are_words : Array → Bool
are_words Bytes = false
are_words Words = true

abbrev pub in_words : Span → Bool
in_words p = are_words p.array

-- the spans of a version; a version that is not known has none
unfoldable pub spans : ℕ → List Span
spans v = when eqb v 1 then version1 else []

unfoldable pub known : ℕ → Bool
known v = eqb v 1

-- how many bytes a span has in the form, and how long a form with these spans is
unfoldable pub width : Span → ℕ
width p = when in_words p then 4 * p.cells else p.cells

unfoldable pub length_by : List Span → ℕ
length_by [] = HEADER
length_by (p ∷ ps) = width p + length_by ps

-- ---- the memory that a form gives by its spans
-- the cells of a span, as they stand in form f
unfoldable pub cells_in : List ℕ → Span → List ℕ
cells_in f p = when in_words p then words_from (area p.at (width p) f) else area p.at (width p) f

-- an array with other cells from a place on
unfoldable pub laid : List ℕ → ℕ → List ℕ → List ℕ
laid array to cells = take to array ++ (cells ++ drop (to + length cells) array)

-- the bytes, and the words, with each span laid at its place
unfoldable pub bytes_by : List ℕ → List Span → List ℕ → List ℕ
bytes_by f [] bytes = bytes
bytes_by f (p ∷ ps) bytes = bytes_by f ps (when in_words p then bytes else laid bytes p.to (cells_in f p))

unfoldable pub words_by : List ℕ → List Span → List ℕ → List ℕ
words_by f [] words = words
words_by f (p ∷ ps) words = words_by f ps (when in_words p then laid words p.to (cells_in f p) else words)

-- what no span has is 0
unfoldable pub state_by : List ℕ → List Span → State
state_by f ps = state_in (bytes_by f ps (replicate BYTES 0)) (words_by f ps (replicate WORDS 0))

-- ---- restoring
unfoldable pub marked : List ℕ → Bool
marked f = eqb (get_or f 0 0) 0x54 and eqb (get_or f 1 0) 0x57 and eqb (get_or f 2 0) 0x53

unfoldable pub version_in : List ℕ → ℕ
version_in f = get_or f 3 0 + 256 * get_or f 4 0

-- what the header and the length are answered: 1, 2, 3, 5, or 0
unfoldable pub head_answer : List ℕ → ℕ
head_answer f =
    when ltb (length f) HEADER then 1
    else when not (marked f) then 2
    else when not (known (version_in f)) then 3
    else when not (eqb (length f) (length_by (spans (version_in f)))) then 5
    else 0

-- what restoring gives: a refusal's number or 0, and the bench, empty where the bytes are refused
pub record Restored : Type 0 where
  pub number : ℕ
  pub state : State

abbrev pub refusal : ℕ → Restored
refusal number = record { number = number; state = empty_state }

-- a bench that was read, or 21
unfoldable pub judged_of : State → Restored
judged_of s = when sound_test s then record { number = 0; state = s } else refusal 21

unfoldable pub restore_of : List ℕ → Restored
restore_of f = when eqb (head_answer f) 0 then judged_of (state_by f (spans (version_in f))) else refusal (head_answer f)
