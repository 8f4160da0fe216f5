-- The exit status of each end. Assumes nothing.
use Rattle.std.specs.Prelude.{ℕ}
use Rattle.program_end.specs.declared.End.{End}
use Rattle.program_end.specs.declared.End.TheVariants.{Done, Refused, Wrong, Failed, Stopped}

abbrev pub status_of : End → ℕ
status_of Done = 0
status_of Refused = 1
status_of Wrong = 2
status_of Failed = 3
status_of Stopped = 4
