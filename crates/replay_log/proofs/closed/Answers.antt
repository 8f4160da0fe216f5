-- The end stays, or is a file's failure. Assumes nothing.
use mathlib.Core.Path.{refl}
use mathlib.Core.Logic.{inl, inr}
use Rattle.replay_log.proofs.closed.Goals as goal

pub returns-in-Err : goal.returns-in-Err
returns-in-Err g c = inr refl

pub returns-in_default-end : goal.returns-in_default-end
returns-in_default-end g c = inl refl

pub returns : goal.returns
returns g c = inl refl
