-- What becomes of a piece, in document 01's numbers. Assumes nothing.
use Rattle.std.specs.Prelude.{ℕ, Result, Ok, Err}
use Rattle.record_answer.specs.declared.Refusal.{Refusal}
use Rattle.record_answer.specs.declared.Refusal.TheVariants.{Unsound, Long, Room}

-- 21 to 23
abbrev pub refusal_of : Refusal → ℕ
refusal_of Unsound = 21
refusal_of Long = 22
refusal_of Room = 23

-- the refusal's number, or 0 where the piece is taken
abbrev pub number_of : Result ℕ Refusal → ℕ
number_of (Ok k) = 0
number_of (Err r) = refusal_of r

-- how many replies; a refused piece gives none
abbrev pub replies_of : Result ℕ Refusal → ℕ
replies_of (Ok k) = k
replies_of (Err r) = 0
