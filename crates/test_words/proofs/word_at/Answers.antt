-- `test_words::word_at` meets its contract. The invariant: word i stands where the last two scans stopped. Assumes nothing.
use mathlib.Core.Path.{◌≡◌}
use native.Mathlib.Omega.{arith}
use Rattle.test_words.proofs.Scanning.{word_first, word_next}
use Rattle.test_words.proofs.word_at.Goals as goal

pub loop-i-init : goal.loop-i-init
loop-i-init c = word_first _ c.scan-start.ensures c.scan-stop.ensures

pub loop-i-preserved : goal.loop-i-preserved
loop-i-preserved c = word_next _ c.loop-i.invariant c.scan-start-in-loop-i.ensures c.scan-stop-in-loop-i.ensures

-- word k is reached
pub returns : goal.returns
returns c =
    let last : c.loop-i.i ≡ c.args.k = omega arith in
    rw last at c.loop-i.invariant
