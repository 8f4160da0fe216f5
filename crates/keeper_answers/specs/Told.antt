-- The answers to the public questions in the model's words. Assumes nothing.
use Rattle.std.specs.Prelude.{◌≡◌, Bool, true, ℕ, ◌+◌, ◌*◌, eqb, Result, ⊤, Ok, Err}
use Rattle.model.specs.Logic.{when◌then◌else◌, bit}
use Rattle.model.specs.State.{State, SUSPENDED, RESUMING, ACTIVE, SUSPENDING}
use Rattle.model.specs.Sound.{Sound}
use Rattle.model.specs.Questions.{Told, told}
use Rattle.keeper_answers.specs.declared.Status.{Status}
use Rattle.keeper_answers.specs.declared.Status.TheVariants.{Suspended, Resuming, Active, Suspending}
use Rattle.keeper_answers.specs.declared.Refusal.{Refusal}
use Rattle.keeper_answers.specs.declared.Refusal.TheVariants.{Unsound, Unknown}

abbrev pub status_of : Status → ℕ
status_of Suspended = SUSPENDED
status_of Resuming = RESUMING
status_of Active = ACTIVE
status_of Suspending = SUSPENDING

-- the status that a number is read as: the last of the four for any number past it
abbrev pub status_for : ℕ → ℕ
status_for x = when eqb x SUSPENDED then SUSPENDED else when eqb x RESUMING then RESUMING else when eqb x ACTIVE then ACTIVE else SUSPENDING

abbrev pub refusal_of : Refusal → ℕ
refusal_of Unsound = 21
refusal_of Unknown = 24

-- what a question meets: a refusal's number alone, or the value
abbrev pub told_by : Result ⊤ Refusal → ℕ → Told
told_by (Ok u) v = record { number = 0; value = v }
told_by (Err r) v = record { number = refusal_of r; value = 0 }

-- a check passes only on a sound bench with known devices
abbrev pub Passed : State → Bool → Result ⊤ Refusal → Type 0
Passed s known (Ok u) = Sound s × (known ≡ true)
Passed s known (Err r) = ⊤

-- on such a bench a right value is told; else the refusal
pub record Checked (s : State) (known : Bool) (c : Result ⊤ Refusal) : Type 0 where
  pub passes : Passed s known c
  pub tells : (v w : ℕ) → (Sound s → known ≡ true → v ≡ w) → told_by c v ≡ told s known w

-- an answer: a refusal's number alone, or what is told
abbrev pub number_told : Result ℕ Refusal → Told
number_told (Ok x) = record { number = 0; value = x }
number_told (Err r) = record { number = refusal_of r; value = 0 }

abbrev pub status_told : Result Status Refusal → Told
status_told (Ok s) = number_told (Ok (status_of s))
status_told (Err r) = number_told (Err r)

abbrev pub member_told : Result Bool Refusal → Told
member_told (Ok b) = number_told (Ok (bit b))
member_told (Err r) = number_told (Err r)

-- an answer as one number: the refusal's number and 256 times what is told
abbrev pub told_code : Told → ℕ
told_code t = t.number + 256 * t.value
