-- `keeper_questions::status_of` meets its contract: the status of a device of a sound bench is one of the four. Assumes nothing.
use mathlib.Core.Path.{◌∙◌}
use native.Mathlib.Omega.{arith}
use Rattle.model.proofs.Logic.{tests}
use Rattle.keeper_answers.proofs.Checks.{four}
use Rattle.keeper_questions.proofs.Telling.{refused, answered}
use Rattle.keeper_questions.proofs.status_of.Goals as goal

pub returns-in-Err : goal.returns-in-Err
returns-in-Err c = refused c.in-Err.ensures _

pub returns-in-Ok : goal.returns-in-Ok
returns-in-Ok c =
    let (s, k) = c.in-Ok.ensures.passes in
    let e = c.status.ensures c.args.b.words in
    let u = s.kept.statuses.used c.args.device (simp tests at k) in
    answered c.in-Ok.ensures (c.from_number.ensures ∙ four _ (omega arith) ∙ e)
