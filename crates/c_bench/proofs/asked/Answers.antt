-- `c_bench::asked` meets its contract: each arm gives the answer to the question of its number. Assumes nothing.
use mathlib.Core.Path.{ap, sym, ◌∙◌}
use native.Mathlib.Omega.{arith}
use native.Mathlib.Nat.{add-zero}
use Rattle.model.specs.Logic.{when◌then◌else◌}
use Rattle.keeper_answers.specs.Told.{told_code}
use Rattle.c_calls.specs.Questions.{ask}
use Rattle.c_calls.proofs.Asking.{ask_past}
use Rattle.c_bench.proofs.asked.Goals as goal

-- status
pub returns-in-0 : goal.returns-in-0
unfolding ask when◌then◌else◌
returns-in-0 c = rw c.in-0.is (c.status_code.ensures ∙ ap told_code c.status_of.ensures)

-- use count
pub returns-in-1 : goal.returns-in-1
unfolding ask when◌then◌else◌
returns-in-1 c = rw c.in-1.is (c.code.ensures ∙ ap told_code c.usage_count.ensures)

-- child count
pub returns-in-2 : goal.returns-in-2
unfolding ask when◌then◌else◌
returns-in-2 c = rw c.in-2.is (c.code-in-2.ensures ∙ ap told_code c.child_count.ensures)

-- user holds
pub returns-in-3 : goal.returns-in-3
unfolding ask when◌then◌else◌
returns-in-3 c = rw c.in-3.is (c.code-in-3.ensures ∙ ap told_code c.user_holds.ensures)

-- a member of the wake set
pub returns-in-4 : goal.returns-in-4
unfolding ask when◌then◌else◌
returns-in-4 c = rw c.in-4.is (c.member_code.ensures ∙ ap told_code c.in_wake_set.ensures)

-- parents above
pub returns-in-5 : goal.returns-in-5
unfolding ask when◌then◌else◌
returns-in-5 c = rw c.in-5.is (c.code-in-5.ensures ∙ ap told_code c.parents_above.ensures)

-- any other question
pub returns-in_default : goal.returns-in_default
returns-in_default c =
    let args = c.args in
    let told = ap told_code (c.unknown.ensures ∙ sym (ask_past args.question _ args.p args.q (omega arith))) in
    rw (c.from.ensures, c.number.ensures) (sym (add-zero _) ∙ told)
