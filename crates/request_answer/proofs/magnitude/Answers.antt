-- `request_answer::magnitude` meets its contract: 0 has none, and any other value and its magnitude are 65,536 together. Assumes nothing.
use native.Mathlib.Omega.{arith}
use native.Mathlib.Decide.{ℕ_discrete}
use borrow.Author.Tests.{eq-eqb, ne_eqb}
use Rattle.model.specs.Logic.{when◌then◌else◌}
use Rattle.request_answer.specs.Promises.{magnitude}
use Rattle.request_answer.proofs.magnitude.Goals as goal

pub returns : goal.returns
unfolding magnitude when◌then◌else◌
returns c =
    elim (ℕ_discrete c.args.v 0) [
      | yes z ↦ rw (eq-eqb c.args.v 0 z) (omega arith)
      | no nz ↦ rw (ne_eqb c.args.v 0 nz) (omega arith)
    ]
