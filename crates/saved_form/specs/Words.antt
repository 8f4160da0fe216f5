-- Words as bytes, four each, low byte first, and back. Assumes nothing.
use Rattle.std.specs.Prelude.{List, [], ◌∷◌, ℕ, ◌+◌, ◌*◌, ◌%◌, ◌/◌}

-- the four bytes of each word
unfoldable pub word_bytes : List ℕ → List ℕ
word_bytes [] = []
word_bytes (w ∷ ws) = w % 256 ∷ w / 256 % 256 ∷ w / 256 / 256 % 256 ∷ w / 256 / 256 / 256 % 256 ∷ word_bytes ws

-- the word of four bytes
abbrev pub word_of : ℕ → ℕ → ℕ → ℕ → ℕ
word_of a b c d = a + 256 * b + 65536 * c + 16777216 * d

-- the words of some bytes; one to three bytes at the end make none
unfoldable pub words_from : List ℕ → List ℕ
words_from [] = []
words_from (a ∷ []) = []
words_from (a ∷ b ∷ []) = []
words_from (a ∷ b ∷ c ∷ []) = []
words_from (a ∷ b ∷ c ∷ d ∷ rest) = word_of a b c d ∷ words_from rest
