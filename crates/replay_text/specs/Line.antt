-- A line of text as it grows. Assumes nothing.
use Rattle.std.specs.Prelude.{List, ◌++◌, ℕ, ◌+◌, ◌-◌, leb, length, take, drop, replicate}
use Rattle.model.specs.Logic.{when◌then◌else◌}
use Rattle.replay_text.specs.declared.line.Line.{Line}

-- a line of that text: its bytes, and zeros up to 256
unfoldable pub line_of : List ℕ → Line
line_of t = record { bytes = t ++ replicate (256 - length t) 0; used = length t }

-- a line with a word after its text; as it was where the word does not fit
unfoldable pub added : Line → List ℕ → Line
added l w = when leb (l.used + length w) 256 then record { bytes = take l.used l.bytes ++ w ++ drop (l.used + length w) l.bytes; used = l.used + length w } else l
