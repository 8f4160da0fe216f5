-- `saved_copy::read_words` meets its contract. The invariant: the words passed stand at the front. Assumes nothing.
use Prim.Native.Nat.{◌+◌, ◌*◌, ◌<◌}
use native.Mathlib.Omega.{arith}
use mathlib.Core.Path.{refl, ◌∙◌}
use lib.ListN.{length}
use Rattle.saved_copy.proofs.Copying.{no_words, word_at_lem, copied_one, copied_all}
use Rattle.saved_copy.proofs.read_words.Goals as goal

pub loop-j-init : goal.loop-j-init
loop-j-init c = no_words _ _ c.min-count.ensures

pub loop-j-preserved : goal.loop-j-preserved
loop-j-preserved c =
    let least = c.min-count.ensures in
    let room : c.loop-j.j < length c.args.into.now = omega arith in
    let whole : 4 * c.loop-j.j + 3 < length c.args.from.now = omega arith in
    copied_one _ _ _ c.loop-j-test.true c.loop-j.invariant refl refl (c.read_word.ensures ∙ word_at_lem c.args.from.now _ _ room whole)

-- all are passed
pub returns : goal.returns
returns c = copied_all c.loop-j.invariant c.loop-j-test.false
