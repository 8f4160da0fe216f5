-- Each test is a part of the room that is asked for; past all of them the records are answered and the rest is read off. Assumes nothing.
use mathlib.Core.Path.{refl}
use native.Mathlib.Omega.{arith}
use Rattle.record_loop.specs.Runs.{Room}
use Rattle.record_piece.proofs.answer_piece.Goals as goal
use Rattle.record_piece.proofs.answer_piece.Goals.{Else-replies-whole}

-- more than three bytes are carried
pub returns-then-used-gt3 : goal.returns-then-used-gt3
returns-then-used-gt3 c =
    let l = c.if-used-gt3.true in
    record { is = λ r. let few = r.few in absurd (omega arith); left = λ r. let few = r.few in absurd (omega arith); untouched = λ n. (refl, refl, refl) }

-- the piece is too long
pub returns-then-piece-gt-PIECE : goal.returns-then-piece-gt-PIECE
returns-then-piece-gt-PIECE c =
    let l = c.if-piece-gt-PIECE.true in
    record { is = λ r. let short = r.short in absurd (omega arith); left = λ r. let short = r.short in absurd (omega arith); untouched = λ n. (refl, refl, refl) }

-- the buffer has no room
pub returns-then-replies-whole : goal.returns-then-replies-whole
returns-then-replies-whole c =
    let l = c.if-replies-whole.true in
    record { is = λ r. let room = r.room in absurd (omega arith); left = λ r. let room = r.room in absurd (omega arith); untouched = λ n. (refl, refl, refl) }

-- the tests passed
fits : (c : Else-replies-whole) → Room c.args.carried.used c.args.piece.now c.args.replies.now
fits c =
    record { few = c.if-used-gt3.false; short = c.if-piece-gt-PIECE.false; room = c.if-replies-whole.false }

pub answer_all-requires : goal.answer_all-requires
answer_all-requires c = fits (goal.at.answer_all-requires c).Else-replies-whole

pub rest-requires : goal.rest-requires
rest-requires c =
    let f = fits (goal.at.rest-requires c).Else-replies-whole in
    let few = f.few in
    let short = f.short in
    record { few = few; near = omega arith }

-- the records are answered
pub returns : goal.returns
returns c =
    record { is = λ r. c.answer_all.ensures; left = λ r. c.rest.ensures; untouched = λ n. absurd (n (fits (goal.at.returns c).Else-replies-whole)) }
