-- `c_bench::unknown` meets its contract, by the soundness test. Assumes nothing.
use Rattle.model.specs.Logic.{when◌then◌else◌}
use Rattle.model.specs.Questions.{told}
use Rattle.model.proofs.Chains.{passed, failed}
use Rattle.c_bench.proofs.unknown.Goals as goal

-- not sound
pub returns-then-not-sound : goal.returns-then-not-sound
unfolding told when◌then◌else◌
returns-then-not-sound c = rw (failed c.sound.ensures.test c.if-not-sound.true-raw)

-- sound
pub returns : goal.returns
unfolding told when◌then◌else◌
returns c = rw (passed c.sound.ensures.test c.if-not-sound.false-raw)
