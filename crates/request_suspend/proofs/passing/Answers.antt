-- `request_suspend::passing` meets its contract. Assumes nothing.
use mathlib.Core.Path.{refl}
use Rattle.request_suspend.specs.Parts.{passing}
use Rattle.request_suspend.proofs.passing.Goals as goal

pub returns : goal.returns
unfolding passing
returns c = refl
