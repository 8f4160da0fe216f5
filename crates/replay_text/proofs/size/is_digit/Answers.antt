-- `replay_text::size::is_digit` meets its contract. Assumes nothing.
use Rattle.std.proofs.Common.{refl}
use Rattle.replay_text.specs.Sizes.{is_digit}
use Rattle.replay_text.proofs.size.is_digit.Goals as goal

pub returns : goal.returns
unfolding is_digit
returns c = refl
