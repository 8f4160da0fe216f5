-- `replay_text::line::field` meets its contract, by those of `word` and `number`. Assumes nothing.
use mathlib.Core.Path.{◌∙◌}
use Rattle.replay_text.proofs.line.field.Goals as goal

-- the one exit
pub returns : goal.returns
returns c = c.number.ensures ∙ rw c.word.ensures
