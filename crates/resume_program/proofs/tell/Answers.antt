-- Each exit is one of the two ends. Assumes nothing.
use mathlib.Core.Path.{refl}
use mathlib.Core.Logic.{inl, inr}
use Rattle.resume_program.proofs.tell.Goals as goal

pub returns-then-state : goal.returns-then-state
returns-then-state g c = inl refl

pub returns : goal.returns
returns g c = inr refl
