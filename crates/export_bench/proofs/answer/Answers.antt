-- `export_bench::answer` meets its contract: each arm's answer is the one at its number in the list. Assumes nothing.
use native.Mathlib.Omega.{arith}
use Rattle.std.proofs.lemmas.Result.{err_from_is_err_and}
use Rattle.export_bench.specs.Asked.{answers_about, asked_of}
use Rattle.export_bench.proofs.Calling.{Passed, past, last_asked}
use Rattle.export_bench.proofs.answer.Goals as goal

pub returns-in_err-status_of-in-0 : goal.returns-in_err-status_of-in-0
unfolding asked_of answers_about
returns-in_err-status_of-in-0 c =
    let p = err_from_is_err_and c.from_residual.result c.from_residual.ensures.1 in
    rw (p.1, p.2, c.in-0.is) c.in_err-status_of-in-0.ensures

pub returns-in_ok-status_of-in-0 : goal.returns-in_ok-status_of-in-0
unfolding asked_of answers_about
returns-in_ok-status_of-in-0 c = rw (c.in-0.is, c.from.ensures, c.number.ensures) c.in_ok-status_of-in-0.ensures

pub returns-in-1 : goal.returns-in-1
unfolding asked_of answers_about
returns-in-1 c = rw c.in-1.is c.user_holds.ensures

pub returns-in-2 : goal.returns-in-2
unfolding asked_of answers_about
returns-in-2 c = rw c.in-2.is c.usage_count.ensures

pub returns-in-3 : goal.returns-in-3
unfolding asked_of answers_about
returns-in-3 c = rw c.in-3.is c.child_count.ensures

pub returns-in-4 : goal.returns-in-4
unfolding asked_of answers_about
returns-in-4 c = rw c.in-4.is c.parents_above.ensures

-- the wake set
pub returns-in_err-in_wake_set-in_default : goal.returns-in_err-in_wake_set-in_default
unfolding Passed
returns-in_err-in_wake_set-in_default c =
    let args = c.args in
    let far = past args.question 0 5 (omega arith) c.in_default.in_default-own.rest in
    let r = c.from_residual-in_err-in_wake_set-in_default in
    let p = err_from_is_err_and r.result r.ensures.1 in
    rw (p.1, p.2, last_asked _ args.question args.p args.q far) c.in_err-in_wake_set-in_default.ensures

pub returns-in_ok-in_wake_set-in_default : goal.returns-in_ok-in_wake_set-in_default
unfolding Passed
returns-in_ok-in_wake_set-in_default c =
    let args = c.args in
    let far = past args.question 0 5 (omega arith) c.in_default.in_default-own.rest in
    rw (last_asked _ args.question args.p args.q far, c.from-in_default.ensures) c.in_ok-in_wake_set-in_default.ensures
