-- `saved_copy::write_words` meets its contract. The invariant: the bytes of the words passed stand at the front. Assumes nothing.
use Prim.Native.Nat.{◌*◌, ◌/◌}
use lib.ListN.{length, take}
use Rattle.saved_form.specs.Words.{word_bytes}
use Rattle.saved_copy.proofs.Copying.{Copied}
use Rattle.saved_copy.proofs.write_words.Given as goal

abbrev pub invariant-loop-j : goal.invariant-loop-j
invariant-loop-j l = Copied (4 * l.count) (word_bytes (take (length l.initial.into / 4) l.from)) l.initial.into (4 * l.j) l.into
