-- `keeper_bench::Bench::take` meets its contract: a bench that passes the test is sound, so the index is that of its links, and the record
-- leads where the model's does. Assumes nothing.
use borrow.Author.Tests.{not-false}
use Rattle.model.specs.Logic.{when◌then◌else◌}
use Rattle.model.specs.Methods.{requested}
use Rattle.model.proofs.Chains.{passed, failed}
use Rattle.links.proofs.Keeping.{sound_indexed}
use Rattle.keeper_bench.proofs.Bench.take.Goals as goal

-- the bench is not sound
pub returns-then-not-sound : goal.returns-then-not-sound
unfolding requested when◌then◌else◌
returns-then-not-sound c = record { is = rw (failed c.sound.ensures.test c.if-not-sound.true-raw) }

-- the record is taken
pub returns : goal.returns
unfolding requested when◌then◌else◌
returns c =
    let v = c.sound.ensures in
    let h = v.sound (not-false _ c.if-not-sound.false-raw) in
    let led = c.step-reply.ensures.is (sound_indexed h (c.index-first.ensures.is h.kept.table.order.links)) in
    record { is = rw (passed v.test c.if-not-sound.false-raw, led) }
