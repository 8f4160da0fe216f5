-- `test_words::minus` meets its contract. Assumes nothing.
use native.Mathlib.Omega.{arith}
use Rattle.std.proofs.lemmas.Grind.{common_steps}
use Rattle.test_words.specs.Words.{pick}
use Rattle.test_words.specs.Numbers.{minus}
use Rattle.test_words.proofs.minus.Goals as goal

pub returns : goal.returns
unfolding minus pick
returns c = grind (arith, common_steps)
