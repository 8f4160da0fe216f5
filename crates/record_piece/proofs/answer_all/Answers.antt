-- Where bytes are carried, the first record is answered by itself, then those of the piece. Assumes nothing.
use mathlib.Core.Path.{◌≡◌}
use Prim.Native.Nat.{◌≤◌}
use native.Mathlib.Omega.{arith}
use lib.ListN.{length}
use Rattle.record_loop.specs.Runs.{joined, Room}
use Rattle.record_loop.proofs.Joining.{joined_length, rest_after}
use Rattle.record_loop.proofs.Looping.{turning_start, turning_end, led_joined}
use borrow.Author.Rules.{rules}
use Rattle.record_piece.proofs.answer_all.Goals as goal
use Rattle.record_piece.proofs.answer_all.Goals.{Else-used-piece-lt4, Start, Then-used-lt1}

-- the carried bytes have their three rows
rows : (start : Start) → start.args.carried.used ≤ length start.args.carried.bytes
rows start =
    let few = start.requires.few in
    let array = start.well_formed.1.1.1.0.1.1.0.1.0 in
    let long : length start.args.carried.bytes ≡ 3 = search rules in
    omega arith

-- nothing is carried: the records stand in the piece
piece_fits : (c : Then-used-lt1) → Room 0 c.args.piece.now c.args.replies.now
piece_fits none =
    let u = none.if-used-lt1.true in
    let r = none.requires.room in
    record { few = omega arith; short = none.requires.short; room = omega arith }

pub shape_of-replies-then-used-lt1 : goal.shape_of-replies-then-used-lt1
shape_of-replies-then-used-lt1 c = search rules

pub returns-then-used-lt1 : goal.returns-then-used-lt1
returns-then-used-lt1 c =
    let e : c.args.carried.used ≡ 0 = (let u = c.if-used-lt1.true in omega arith) in
    record { is = λ z. rw e ((c.answer_records.ensures.is (piece_fits (goal.at.returns-then-used-lt1 c).Then-used-lt1)).is z) }

-- there is no whole record
pub returns-then-used-piece-lt4 : goal.returns-then-used-piece-lt4
returns-then-used-piece-lt4 c =
    let long = joined_length c.args.carried.bytes c.args.piece.now c.args.carried.used (rows (goal.at.returns-then-used-piece-lt4 c).Start) in
    record { is = λ z. turning_end (turning_start (let r = c.requires.room in omega arith)) (let l = c.if-used-piece-lt4.true in omega arith) z }

-- there is a whole record, and room for its reply
whole_record : (c : Else-used-piece-lt4) → 4 ≤ length ((joined c.args.carried.bytes c.args.carried.used c.args.piece.now))
whole_record c =
    let rows : c.args.carried.used ≤ length c.args.carried.bytes = let few = c.requires.few in
    let array = c.well_formed.1.1.1.0.1.1.0.1.0 in
    let long : length c.args.carried.bytes ≡ 3 = search rules in
    omega arith in
    let l = c.if-used-piece-lt4.false in
    let long = joined_length c.args.carried.bytes c.args.piece.now c.args.carried.used (rows) in
    omega arith

room_for_one : (c : Else-used-piece-lt4) → 4 ≤ length c.args.replies.now
room_for_one c =
    let l = c.if-used-piece-lt4.false in
    let r = c.requires.room in
    omega arith

used_up : (start : Start) → start.args.carried.used ≤ 4
used_up start = let few = start.requires.few in omega arith

-- the first record, then the others
pub answer_first-requires : goal.answer_first-requires
answer_first-requires c =
    (c.requires.few, room_for_one (goal.at.answer_first-requires c).Else-used-piece-lt4)

pub answer_rest-requires : goal.answer_rest-requires
answer_rest-requires c =
    let l = c.if-used-piece-lt4.false in
    let u = c.if-used-lt1.false in
    let few = c.requires.few in
    let short = c.requires.short in
    let r = c.requires.room in
    let many : length c.answer_first.new.replies ≡ length c.args.replies.now = search rules in
    record { within = omega arith; short = short; one = omega arith; room = omega arith }

pub shape_of-replies : goal.shape_of-replies
shape_of-replies c = search rules

pub returns : goal.returns
returns c =
    let rest = c.answer_rest.ensures in
    let after = rest_after c.args.carried.bytes c.args.piece.now c.args.carried.used (rows (goal.at.returns c).Start) 4 (used_up (goal.at.returns c).Start) in
    record {
      is = λ z.
          let head = c.answer_first.ensures.is z in
          let more = rw after at (rest.is head.between) in
          rw rest.back (led_joined ((joined c.args.carried.bytes c.args.carried.used c.args.piece.now)) c.args.replies.now (whole_record (goal.at.returns c).Else-used-piece-lt4) (room_for_one (goal.at.returns c).Else-used-piece-lt4) z head more);
    }
