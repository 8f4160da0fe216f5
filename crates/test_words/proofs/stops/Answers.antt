-- `test_words::stops` meets its contract. Assumes nothing.
use native.Mathlib.Omega.{arith}
use Rattle.std.proofs.lemmas.Grind.{common_steps}
use Rattle.test_words.specs.Words.{pick, stops}
use Rattle.test_words.proofs.stops.Goals as goal

pub returns : goal.returns
unfolding stops pick
returns c = grind (arith, common_steps)
