-- `saved_copy::read_words` meets its contract. The invariant: the words passed stand at the front. Assumes nothing.
use lib.ListN.{length, take}
use Rattle.saved_form.specs.Words.{words_from}
use Rattle.saved_copy.proofs.Copying.{Copied}
use Rattle.saved_copy.proofs.read_words.Given as goal

abbrev pub invariant-loop-j : goal.invariant-loop-j
invariant-loop-j l = Copied l.count (take (length l.initial.into) (words_from l.from)) l.initial.into l.j l.into
