-- `record_loop::write_reply` meets its contract: four bytes set one after another are a write at a place. Assumes nothing.
use mathlib.Core.Path.{◌≡◌}
use Prim.Native.Nat.{◌/◌, ◌%◌, ◌<◌}
use native.Mathlib.Omega.{arith}
use borrow.Author.Rules.{rules}
use Rattle.record_loop.proofs.Joining.{over_four}
use Rattle.record_loop.proofs.write_reply.Goals as goal

pub returns : goal.returns
returns c =
    let low : c.args.reply.code < 65536 = search rules in
    let high : c.args.reply.code / 256 % 256 ≡ c.args.reply.code / 256 = omega arith in
    rw (c.to_le_bytes.ensures, high) (over_four c.args.replies.now c.args.i _ _ _ _ c.requires)
