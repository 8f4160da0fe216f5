-- `c_host::keeper_feed` meets its contract: a refusal comes before anything is written, and a bench that took a piece is sound. Assumes nothing.
use mathlib.Core.Path.{sym, ◌∙◌}
use native.Mathlib.Omega.{arith}
use borrow.Author.Tests.{le-leb}
use mir.Facts.{to_z-of_z}
use Rattle.saved_write.proofs.Saving.{saved_as}
use Rattle.c_calls.proofs.Answers.{given_whole}
use Rattle.c_calls.proofs.Calling.{feed_refused, feed_taken, taken_sound, taken_room}
use Rattle.c_host.proofs.keeper_feed.Goals as goal

-- refused
pub returns-then-number-ne0 : goal.returns-then-number-ne0
returns-then-number-ne0 c =
    rw (to_z-of_z (record { sfits = c.refused.type_inv }), c.refused.ensures, c.number-number.ensures)
    (feed_refused _ _ _ c.bench_in.ensures.judged c.feed-fed.ensures (λ e. c.if-number-ne0.true (c.number-number.ensures ∙ e)))

-- taken
pub returns : goal.returns
returns c =
    let is = c.bench_in.ensures.judged in
    let gave = c.feed-fed.ensures in
    let taken = sym c.number-number.ensures ∙ c.if-number-ne0.false in
    let sound = taken_sound _ _ _ is gave taken in
    let room = taken_room _ _ _ is gave taken in
    let kept = rw (le-leb _ _ room) at c.keep-kept.ensures.room in
    let written = rw kept at (saved_as _ _ _ sound c.keep-kept.ensures) in
    let many = c.count.type_inv in
    let whole = given_whole c.count.result (omega arith) in
    rw (to_z-of_z (record { sfits = c.given.type_inv }), c.given.ensures, c.from.ensures, whole, c.count.ensures)
    (feed_taken _ _ _ is gave taken written)
