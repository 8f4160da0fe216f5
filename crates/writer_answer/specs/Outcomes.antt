-- The writer's outcome as a number and an index. Assumes nothing.
use Rattle.std.specs.Prelude.{Result, ⊤, Ok, Err}
use Rattle.model.specs.Table.{TableAnswer}
use Rattle.writer_answer.specs.declared.Refusal.{Refusal}
use Rattle.writer_answer.specs.declared.Refusal.TheVariants.{Limits, Device, Link, Room}

abbrev pub refusal_of : Refusal → TableAnswer
refusal_of Limits = record { number = 4; index = 0 }
refusal_of (Device p) = record { number = 6; index = p }
refusal_of (Link i) = record { number = 7; index = i }
refusal_of Room = record { number = 8; index = 0 }

-- no number is given where the table is written: 0
abbrev pub outcome_of : Result ⊤ Refusal → TableAnswer
outcome_of (Ok _) = record { number = 0; index = 0 }
outcome_of (Err r) = refusal_of r
