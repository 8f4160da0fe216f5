-- `test_words::digit` meets its contract. Assumes nothing.
use native.Mathlib.Omega.{arith}
use Rattle.std.proofs.lemmas.Grind.{common_steps}
use Rattle.test_words.specs.Words.{pick}
use Rattle.test_words.specs.Numbers.{digit_of}
use Rattle.test_words.proofs.digit.Goals as goal

pub returns-in-48-to-57 : goal.returns-in-48-to-57
unfolding digit_of pick
returns-in-48-to-57 c = grind (arith, common_steps)

pub returns-in-65-to-70 : goal.returns-in-65-to-70
unfolding digit_of pick
returns-in-65-to-70 c = grind (arith, common_steps)

pub returns-in_default : goal.returns-in_default
unfolding digit_of pick
returns-in_default c = grind (arith, common_steps)

pub returns-in_default-2 : goal.returns-in_default-2
unfolding digit_of pick
returns-in_default-2 c = grind (arith, common_steps)

pub returns-in_default-3 : goal.returns-in_default-3
unfolding digit_of pick
returns-in_default-3 c = grind (arith, common_steps)
