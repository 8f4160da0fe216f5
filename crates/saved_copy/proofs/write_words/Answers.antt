-- `saved_copy::write_words` meets its contract. The invariant: the bytes of the words passed stand at the front. Assumes nothing.
use Prim.Native.Nat.{◌/◌, ◌<◌}
use native.Mathlib.Omega.{arith}
use lib.ListN.{length, take}
use Rattle.saved_copy.proofs.Copying.{none_written, byte_at, copied_word, copied_all}
use Rattle.saved_copy.proofs.write_words.Goals as goal

pub loop-j-init : goal.loop-j-init
loop-j-init c = none_written _ _ c.min-count.ensures

pub loop-j-preserved : goal.loop-j-preserved
loop-j-preserved c =
    let least = c.min-count.ensures in
    let room : c.loop-j.j < length c.args.into.now / 4 = omega arith in
    rw c.write_word.ensures
    (copied_word (take (length c.args.into.now / 4) c.args.from.now) _ c.loop-j-test.true c.loop-j.invariant (byte_at c.args.from.now _ _ room))

-- all are passed
pub returns : goal.returns
returns c = let done = c.loop-j-test.false in copied_all c.loop-j.invariant (omega arith)
