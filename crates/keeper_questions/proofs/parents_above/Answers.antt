-- `keeper_questions::parents_above` meets its contract: on a sound bench a parent's number is lower than its child's. Assumes nothing.
use mathlib.Core.Path.{◌∙◌}
use Rattle.model.proofs.Logic.{tests}
use Rattle.std.proofs.lemmas.Result.{err_from_is_err_and}
use Rattle.keeper_questions.proofs.Telling.{refused, answered}
use Rattle.keeper_questions.proofs.parents_above.Goals as goal

pub returns-in_err-about : goal.returns-in_err-about
returns-in_err-about c =
    let p = err_from_is_err_and c.from_residual.result c.from_residual.ensures.1 in
    rw (p.1, p.2) (refused c.in_err-about.ensures _)

pub returns : goal.returns
returns c =
    let (s, k) = c.in_ok-about.ensures.passes in
    answered c.in_ok-about.ensures (c.from.ensures ∙ c.parents_above.ensures.is c.args.b.words s.kept.table.order (simp tests at k))
