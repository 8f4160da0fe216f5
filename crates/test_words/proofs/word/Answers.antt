-- `test_words::word` meets its contract: what stands from the start of word k to its stop is that word. Assumes nothing.
use Rattle.test_words.proofs.Scanning.{word_text}
use Rattle.test_words.proofs.word.Goals as goal

pub returns : goal.returns
returns c = word_text _ c.word_at-part.ensures
