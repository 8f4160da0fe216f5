-- `record_loop::record_in` meets its contract. Assumes nothing.
use mathlib.Core.Path.{◌≡◌}
use Prim.Native.Nat.{◌+◌, ◌*◌}
use native.Mathlib.Omega.{arith}
use lib.ListN.{get_or}
use Rattle.record_loop.specs.Runs.{record_in}
use Rattle.record_loop.proofs.record_in.Goals as goal

pub returns : goal.returns
unfolding record_in
returns c =
    let piece = c.args.piece.now in
    let j = c.args.j in
    let word : c.from_le_bytes.result ≡ get_or piece (j + 2) 0 + 256 * get_or piece (j + 3) 0 = let z = c.from_le_bytes.ensures in omega arith in
    rw word
