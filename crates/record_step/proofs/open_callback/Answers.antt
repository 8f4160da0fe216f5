-- One exit for none and one for the open callback of each kind's number, by what the three readers say. Assumes nothing.
use Rattle.model.specs.Logic.{when◌then◌else◌}
use borrow.Author.Tests.{ne_eqb}
use Rattle.record_step.specs.Records.{opened_as}
use native.Mathlib.Omega.{arith}
use Rattle.std.proofs.Common.{◌≢◌}
use Rattle.record_step.proofs.open_callback.Goals as goal
use Rattle.record_step.proofs.open_callback.Goals.{in-1, in-2, in_default}

-- none
pub returns-in-0 : goal.returns-in-0
unfolding opened_as when◌then◌else◌
returns-in-0 c = λ words. rw (← c.callback.ensures words, c.in-0.is)

-- suspend, resume; every other number is read as idle
pub returns : goal.returns
unfolding opened_as when◌then◌else◌
returns c =
    λ words.
    rw (← c.callback.ensures words, ← c.asked.ensures words, ← c.target.ensures words)
    (elim c.match-callback.branch [
      | in-1 w ↦ rw (w.kind-is, w.in-1.is)
      | in-2 w ↦ rw (w.kind-is, w.in-2.is)
      | in_default w ↦
          let n0 : c.callback.result ≢ 0 = omega arith in
          let n1 : c.callback.result ≢ 1 = omega arith in
          let n2 : c.callback.result ≢ 2 = omega arith in
          rw (w.kind-is, ne_eqb _ _ n0, ne_eqb _ _ n1, ne_eqb _ _ n2)
    ])
