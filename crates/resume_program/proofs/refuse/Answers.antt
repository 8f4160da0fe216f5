-- Each exit is one of the two ends. Assumes nothing.
use mathlib.Core.Path.{refl}
use mathlib.Core.Logic.{inl, inr}
use Rattle.resume_program.proofs.refuse.Goals as goal

pub returns-then-line : goal.returns-then-line
returns-then-line g c = inl refl

pub returns : goal.returns
returns g c = inr refl
