-- `writer_lists::device_fits` meets its contract. Assumes nothing.
use native.Mathlib.Omega.{arith}
use Rattle.std.proofs.lemmas.Grind.{common_steps}
use Rattle.model.specs.Writing.{device_fits}
use Rattle.writer_lists.proofs.device_fits.Goals as goal

pub returns : goal.returns
unfolding device_fits
returns c = grind (arith, common_steps)
