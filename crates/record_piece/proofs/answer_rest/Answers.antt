-- The part of the piece and the part of the buffer are lent, and the latter comes back in its place. Assumes nothing.
use native.Mathlib.Omega.{arith}
use Prim.Native.Nat.{◌-◌}
use lib.ListN.{length, take, drop, length-drop}
use Rattle.record_loop.specs.Runs.{Room}
use Rattle.record_loop.proofs.Joining.{part_lent, part_back}
use borrow.Author.Rules.{rules}
use Rattle.record_piece.proofs.answer_rest.Goals as goal
use Rattle.record_piece.proofs.answer_rest.Goals.{Start}

-- the rest of the piece and of the buffer, as they are lent
rest_fits : (start : Start) → let piece = start.args.piece.now in let out = start.args.replies.now in
    Room 0 (take (length piece - start.args.from) (drop start.args.from piece)) (take (length out - 4) (drop 4 out))
rest_fits start =
    let piece = start.args.piece.now in
    let out = start.args.replies.now in
    let l = length-drop start.args.from piece in
    let m = length-drop 4 out in
    let w = start.requires.within in
    let short = start.requires.short in
    let room = start.requires.room in
    rw (part_lent start.args.from piece, part_lent 4 out) (record { few = omega arith; short = omega arith; room = omega arith })

pub shape_of-replies : goal.shape_of-replies
shape_of-replies c = search rules

pub returns : goal.returns
returns c =
    let piece = c.args.piece.now in
    let out = c.args.replies.now in
    record {
      part = c.answer_records.new.replies;
      is = λ z. rw (part_lent c.args.from piece, part_lent 4 out) at ((c.answer_records.ensures.is (rest_fits (goal.at.returns c).Start)).is z);
      back = part_back 4 out _ c.requires.one;
    }
