-- The lines of a list of parts and links. Assumes nothing.
use Rattle.std.specs.Prelude.{List, ◌++◌, ℕ, eqb}
use Rattle.model.specs.Limits.{NONE}
use Rattle.model.specs.Logic.{when◌then◌else◌}
use Rattle.replay_text.specs.Text.{ascii, decimal}

-- the word of a parent
unfoldable pub parent_text : ℕ → List ℕ
parent_text parent = when eqb parent NONE then ascii "none" else decimal parent

-- part PARENT FLAGS, without and with its end
unfoldable pub part_words : ℕ → ℕ → List ℕ
part_words parent flags = ascii "part " ++ parent_text parent ++ ascii " " ++ decimal flags

unfoldable pub part_text : ℕ → ℕ → List ℕ
part_text parent flags = part_words parent flags ++ ascii "\n"

-- link CONSUMER SUPPLIER FLAGS, without and with its end
unfoldable pub link_words : ℕ → ℕ → ℕ → List ℕ
link_words consumer supplier flags = ascii "link " ++ decimal consumer ++ ascii " " ++ decimal supplier ++ ascii " " ++ decimal flags

unfoldable pub link_text : ℕ → ℕ → ℕ → List ℕ
link_text consumer supplier flags = link_words consumer supplier flags ++ ascii "\n"
