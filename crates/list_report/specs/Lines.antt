-- The lines that are printed of a list that is turned away. Assumes nothing.
use Rattle.std.specs.Prelude.{List, ◌++◌, ℕ}
use Rattle.replay_text.specs.Text.{ascii, decimal}

-- refused NUMBER INDEX line N
unfoldable pub refused_text : ℕ → ℕ → ℕ → List ℕ
refused_text number index line = ascii "refused " ++ decimal number ++ ascii " " ++ decimal index ++ ascii " line " ++ decimal line ++ ascii "\n"

-- refused NUMBER INDEX
unfoldable pub nowhere_text : ℕ → ℕ → List ℕ
nowhere_text number index = ascii "refused " ++ decimal number ++ ascii " " ++ decimal index ++ ascii "\n"

-- line N: a number is over 255
unfoldable pub large_text : ℕ → List ℕ
large_text line = ascii "line " ++ decimal line ++ ascii ": a number is over 255\n"

-- line N: neither a part nor a link
unfoldable pub wrong_text : ℕ → List ℕ
wrong_text line = ascii "line " ++ decimal line ++ ascii ": neither a part nor a link\n"

-- list too long
unfoldable pub long_text : List ℕ
long_text = ascii "list too long\n"
