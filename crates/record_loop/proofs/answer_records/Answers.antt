-- The records of a source one after another: after k of them the rest of the source leads where all of it leads. Assumes nothing.
use mathlib.Core.Path.{refl}
use native.Mathlib.Omega.{arith}
use Rattle.record_loop.proofs.Looping.{turning_start, whole_record, reply_fits, turning_more, turning_end}
use Rattle.record_loop.proofs.answer_records.Goals as goal

-- longer than a piece may be
pub returns-then-source-gt-PIECE : goal.returns-then-source-gt-PIECE
returns-then-source-gt-PIECE c =
    let l = c.if-source-gt-PIECE.true in
    record { is = λ r. let short = r.short in absurd (omega arith); untouched = λ n. (refl, refl, refl) }

-- no room for the replies
pub returns-then-replies-count : goal.returns-then-replies-count
returns-then-replies-count c =
    let l = c.if-replies-count.true in
    record { is = λ r. let room = r.room in absurd (omega arith); untouched = λ n. (refl, refl, refl) }

-- no record is answered at the start
pub loop-k-init : goal.loop-k-init
loop-k-init c = let r = c.if-replies-count.false in turning_start (omega arith)

pub record_in-record-requires : goal.record_in-record-requires
record_in-record-requires c =
    (whole_record c.loop-k.invariant c.loop-k-test.true, c.if-source-gt-PIECE.false)

pub write_reply-requires : goal.write_reply-requires
write_reply-requires c =
    reply_fits c.loop-k.invariant c.loop-k-test.true

-- one record more
pub loop-k-preserved : goal.loop-k-preserved
loop-k-preserved c =
    turning_more c.loop-k.invariant c.loop-k-test.true (λ h. rw (← c.record_in-record.ensures) (c.step-reply.ensures.is h))
    c.write_reply.ensures

-- after the last
pub shape_of-replies : goal.shape_of-replies
shape_of-replies c = c.loop-k.invariant.long

pub returns : goal.returns
returns c =
    let room = c.if-replies-count.false in
    let short = c.if-source-gt-PIECE.false in
    record {
      is = λ r. record { is = turning_end c.loop-k.invariant c.loop-k-test.false };
      untouched = λ n. absurd (n (record { few = omega arith; short = short; room = omega arith }));
    }
