-- `list_text::put_bytes` meets its contract. Assumes nothing.
use Rattle.std.proofs.Common.{◌<◌, length, arith}
use Rattle.list_text.proofs.Storing.{sets_one}
use Rattle.list_text.proofs.put_bytes.Goals as goal

pub loop-i-preserved : goal.loop-i-preserved
loop-i-preserved c =
    let at = c.loop-i in
    let more : at.i < length c.args.bytes.now = omega arith in
    rw (c.put.ensures, at.invariant) (sets_one c.args.out.now c.args.at c.args.bytes.now at.i more)
