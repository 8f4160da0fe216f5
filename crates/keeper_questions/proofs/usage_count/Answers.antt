-- `keeper_questions::usage_count` meets its contract: the use count of a device of a sound bench is below 2^32. Assumes nothing.
use native.Mathlib.Omega.{arith}
use Rattle.model.proofs.Logic.{tests}
use Rattle.model.specs.Limits.{LINKS}
use Rattle.model.proofs.Answers.{usage_low}
use Rattle.std.proofs.lemmas.Result.{err_from_is_err_and}
use Rattle.keeper_questions.proofs.Telling.{refused, answered}
use Rattle.keeper_questions.proofs.usage_count.Goals as goal

pub returns-in_err-about : goal.returns-in_err-about
returns-in_err-about c =
    let p = err_from_is_err_and c.from_residual.result c.from_residual.ensures.1 in
    rw (p.1, p.2) (refused c.in_err-about.ensures _)

pub overflow_cast-result : goal.overflow_cast-result
unfolding LINKS
overflow_cast-result c =
    let bytes = c.args.b.bytes in
    let (s, k) = c.in_ok-about.ensures.passes in
    let e = rw (c.holds.ensures bytes, c.linked.ensures bytes) at c.usage-uses.ensures in
    let l = usage_low s c.args.device (simp tests at k) in
    omega arith

pub returns : goal.returns
returns c =
    let bytes = c.args.b.bytes in
    answered c.in_ok-about.ensures (rw (c.holds.ensures bytes, c.linked.ensures bytes) at c.usage-uses.ensures)
