-- `sound_rows::same_words` meets its contract: each row is tested. Assumes nothing.
use borrow.Author.Rules.{rules}
use Rattle.model.specs.Limits.{ROWS}
use Rattle.model.specs.SoundTest.{same_test}
use Rattle.sound_rows.proofs.same_words.Goals as goal

pub returns : goal.returns
unfolding same_test ROWS
returns c = c.every.ensures _ (λ k r l e. search rules)
