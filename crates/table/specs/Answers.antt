-- The loader's answer as document 01's number and index. Assumes nothing.
use Rattle.std.specs.Prelude.{Result, ⊤, Ok, Err}
use Rattle.model.specs.Table.{TableAnswer}
use Rattle.table.specs.declared.Refusal.{Refusal}
use Rattle.table.specs.declared.Refusal.TheVariants.{Short, Mark, Version, Limits, Length, Device, Link}

abbrev pub refusal_of : Refusal → TableAnswer
refusal_of Short = record { number = 1; index = 0 }
refusal_of Mark = record { number = 2; index = 0 }
refusal_of Version = record { number = 3; index = 0 }
refusal_of Limits = record { number = 4; index = 0 }
refusal_of Length = record { number = 5; index = 0 }
refusal_of (Device p) = record { number = 6; index = p }
refusal_of (Link i) = record { number = 7; index = i }

-- no number is given to a table that is taken: 0
abbrev pub answer_of : Result ⊤ Refusal → TableAnswer
answer_of (Ok _) = record { number = 0; index = 0 }
answer_of (Err r) = refusal_of r
