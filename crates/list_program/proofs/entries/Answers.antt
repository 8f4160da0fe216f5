-- `list_program::entries` meets its contract: each exit is one of the two ends. Assumes nothing.
use mathlib.Core.Path.{refl}
use mathlib.Core.Logic.{inl, inr}
use Rattle.list_program.proofs.entries.Goals as goal

pub returns-then-not-devices : goal.returns-then-not-devices
returns-then-not-devices g c = inr refl

pub returns-then-not-links : goal.returns-then-not-links
returns-then-not-links g c = inr refl

pub returns : goal.returns
returns g c = inl refl
