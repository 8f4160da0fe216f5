-- `test_words::joined` meets its contract. Assumes nothing.
use native.Mathlib.Omega.{arith}
use Rattle.std.proofs.lemmas.Grind.{common_steps}
use Rattle.test_words.specs.Words.{pick}
use Rattle.test_words.specs.Numbers.{joined}
use Rattle.test_words.proofs.joined.Goals as goal

pub returns-then-d-x : goal.returns-then-d-x
unfolding joined pick
returns-then-d-x c = grind (arith, common_steps)

pub returns-else-d-x : goal.returns-else-d-x
unfolding joined pick
returns-else-d-x c = grind (arith, common_steps)
