-- `replay_text::size::digit` meets its contract: each exit is one branch of `digit_of`. Assumes nothing.
use Rattle.std.proofs.Common.{sym, ◌∙◌, arith}
use Rattle.model.specs.Logic.{when◌then◌else◌}
use Rattle.replay_text.specs.Sizes.{digit_of}
use Rattle.replay_text.proofs.Reading.{digit_range}
use Rattle.replay_text.proofs.size.digit.Goals as goal

-- no digit
pub returns-then-not-is_digit : goal.returns-then-not-is_digit
unfolding digit_of when◌then◌else◌
returns-then-not-is_digit c = rw (sym c.is_digit.ensures ∙ c.if-not-is_digit.true)

-- 0 to 9
pub overflow_sub-b : goal.overflow_sub-b
overflow_sub-b c = let r = digit_range c.args.b (sym c.is_digit.ensures ∙ c.if-not-is_digit.false) in omega arith

pub returns : goal.returns
unfolding digit_of when◌then◌else◌
returns c = rw (sym c.is_digit.ensures ∙ c.if-not-is_digit.false, c.from.ensures)
