-- `writer_lists::pair_of` meets its contract. Assumes nothing.
use native.Mathlib.Omega.{arith}
use Rattle.std.proofs.lemmas.Grind.{common_steps}
use Rattle.model.specs.Writing.{pair}
use Rattle.writer_lists.proofs.pair_of.Goals as goal

pub returns : goal.returns
unfolding pair
returns c = grind (arith, common_steps)
