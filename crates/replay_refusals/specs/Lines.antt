-- The lines that are said of a refusal. Assumes nothing.
use Rattle.std.specs.Prelude.{Bool, List, ◌++◌, ℕ}
use Rattle.model.specs.Logic.{when◌then◌else◌}
use Rattle.replay_text.specs.Text.{ascii, decimal}

-- the program that speaks
unfoldable pub speaker_text : Bool → List ℕ
speaker_text resumes = when resumes then ascii "resume: " else ascii "replay: "

-- PROGRAM: piece refused NUMBER
unfoldable pub stopped_text : Bool → ℕ → List ℕ
stopped_text resumes number = speaker_text resumes ++ ascii "piece refused " ++ decimal number ++ ascii "\n"

-- PROGRAM: state refused NUMBER
unfoldable pub unsaved_text : Bool → ℕ → List ℕ
unsaved_text resumes number = speaker_text resumes ++ ascii "state refused " ++ decimal number ++ ascii "\n"

-- state refused NUMBER
unfoldable pub unrestored_text : ℕ → List ℕ
unrestored_text number = ascii "state refused " ++ decimal number ++ ascii "\n"
