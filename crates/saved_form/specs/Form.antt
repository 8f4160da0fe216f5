-- "mark "TWS", version 1, then the whole bench in a fixed-length layout set down in docs/": the one saved form of a bench. After the header
-- stands the memory, byte for byte: its bytes, then its words in four bytes each. Assumes nothing.
use Rattle.std.specs.Prelude.{List, [], ◌∷◌, ◌++◌, ℕ, ◌+◌, ◌*◌, ◌%◌, ◌/◌}
use Rattle.model.specs.State.{State}
use Rattle.memory.specs.Layout.{BYTES, WORDS, bytes_of, words_of}
use Rattle.saved_form.specs.Words.{word_bytes}

-- the version that is saved
abbrev pub NEWEST : ℕ
NEWEST = 1

-- three bytes for the mark, two for the version
abbrev pub HEADER : ℕ
HEADER = 5

unfoldable pub header : List ℕ
header = 0x54 ∷ 0x57 ∷ 0x53 ∷ NEWEST % 256 ∷ NEWEST / 256 ∷ []

unfoldable pub form : State → List ℕ
form s = header ++ (bytes_of s ++ word_bytes (words_of s))

-- its length
unfoldable pub FORM : ℕ
FORM = HEADER + BYTES + 4 * WORDS
