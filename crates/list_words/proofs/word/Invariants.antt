-- `list_words::word`: the word that is wanted is so many words on in the rest. Assumes nothing.
use Rattle.std.proofs.Common.{◌≡◌, ◌-◌}
use Rattle.list_words.specs.Words.{word_at, word_in}
use Rattle.list_words.proofs.word.Given as goal

abbrev pub invariant-loop-i : goal.invariant-loop-i
invariant-loop-i l = word_at l.rest (l.k - l.i) ≡ word_in l.line l.k
