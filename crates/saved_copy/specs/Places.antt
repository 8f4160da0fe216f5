-- A word in some bytes. Assumes nothing.
use Rattle.std.specs.Prelude.{List, ℕ, ◌+◌, get_or}
use Rattle.saved_form.specs.Words.{word_of}

abbrev pub word_at : List ℕ → ℕ → ℕ
word_at l at = word_of (get_or l at 0) (get_or l (at + 1) 0) (get_or l (at + 2) 0) (get_or l (at + 3) 0)
