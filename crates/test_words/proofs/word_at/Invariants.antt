-- `test_words::word_at` meets its contract. The invariant: word i stands where the last two scans stopped. Assumes nothing.
use Rattle.test_words.specs.Words.{Word}
use Rattle.test_words.proofs.word_at.Given as goal

abbrev pub invariant-loop-i : goal.invariant-loop-i
invariant-loop-i l = Word l.between l.s l.i l.start l.stop
