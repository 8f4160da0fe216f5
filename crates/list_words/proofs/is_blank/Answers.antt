-- `list_words::is_blank` meets its contract. Assumes nothing.
use Rattle.std.proofs.Common.{refl}
use Rattle.list_words.specs.Words.{is_blank}
use Rattle.list_words.proofs.is_blank.Goals as goal

pub returns : goal.returns
unfolding is_blank
returns c = refl
