-- The four bytes are one record, and there is room for its reply. Assumes nothing.
use native.Mathlib.Omega.{arith}
use Rattle.record_loop.specs.Runs.{Room}
use Rattle.record_piece.proofs.answer_first.Goals as goal
use Rattle.record_piece.proofs.answer_first.Goals.{After-head-front}

first_fits : (c : After-head-front) → Room 0 c.head-front.result c.args.replies.now
first_fits headed =
    let room = headed.requires.1 in
    record { few = omega arith; short = rw headed.head-front.ensures (omega arith); room = rw headed.head-front.ensures (omega arith) }

pub returns : goal.returns
returns c =
    record { is = λ z. rw c.head-front.ensures at ((c.answer_records.ensures.is (first_fits (goal.at.returns c).After-head-front)).is z) }
