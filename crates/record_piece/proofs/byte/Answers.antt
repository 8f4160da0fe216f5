-- `record_piece::byte` meets its contract. Assumes nothing.
use mathlib.Core.Path.{◌∙◌}
use Prim.Native.Nat.{◌≤◌}
use native.Mathlib.Omega.{arith}
use lib.ListN.{length}
use Rattle.record_loop.proofs.Joining.{carried_at, piece_at}
use borrow.Author.Rules.{rules}
use Rattle.record_piece.proofs.byte.Goals as goal
use Rattle.record_piece.proofs.byte.Goals.{Start}

few : (c : Start) → c.args.carried.used ≤ length c.args.carried.bytes
few c = search rules

-- a carried byte
pub returns-then-i-carried : goal.returns-then-i-carried
returns-then-i-carried c =
    carried_at c.args.carried.bytes _ _ (few (goal.at.returns-then-i-carried c).Start) c.args.i c.if-i-carried.true

-- a byte of the piece
pub returns : goal.returns
returns c =
    c.byte_at.ensures ∙ piece_at c.args.carried.bytes _ _ (few (goal.at.returns c).Start) c.args.i _ (let l = c.if-i-carried.false in omega arith)
