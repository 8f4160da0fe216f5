-- `keeper_questions::checked` meets its contract. Assumes nothing.
use borrow.Author.Tests.{not-false}
use Rattle.model.specs.Logic.{when◌then◌else◌}
use Rattle.model.specs.Questions.{told}
use Rattle.model.proofs.Chains.{passed, failed}
use Rattle.keeper_questions.proofs.checked.Goals as goal

pub returns-then-not-sound : goal.returns-then-not-sound
unfolding told when◌then◌else◌
returns-then-not-sound c = record { passes = tt; tells = λ v w f. rw (failed c.sound.ensures.test c.if-not-sound.true-raw) }

pub returns-then-not-known : goal.returns-then-not-known
unfolding told when◌then◌else◌
returns-then-not-known c = record { passes = tt; tells = λ v w f. rw (passed c.sound.ensures.test c.if-not-sound.false-raw, c.if-not-known.true-raw) }

pub returns : goal.returns
unfolding told when◌then◌else◌
returns c =
    let e = passed c.sound.ensures.test c.if-not-sound.false-raw in
    let h = c.sound.ensures.sound (not-false _ c.if-not-sound.false-raw) in
    let k = not-false _ c.if-not-known.false-raw in
    record { passes = (h, k); tells = λ v w f. rw (e, c.if-not-known.false-raw, f h k) }
