-- `writer_lists::link_whole` meets its contract. Assumes nothing.
use native.Mathlib.Omega.{arith}
use Rattle.std.proofs.lemmas.Grind.{common_steps}
use Rattle.model.specs.Writing.{link_whole}
use Rattle.writer_lists.proofs.link_whole.Goals as goal

pub returns : goal.returns
unfolding link_whole
returns c = grind (arith, common_steps)
