-- One exit for each kind: the test of that kind is the whole one. Assumes nothing.
use mathlib.Core.Path.{sym, ◌∙◌}
use native.Mathlib.Omega.{arith}
use Rattle.std.proofs.Common.{◌≢◌}
use Rattle.sound_callback.proofs.Opening.{kind_none, kind_suspend, kind_resume, kind_idle, kind_other}
use Rattle.sound_callback.proofs.callback_good.Goals as goal

-- none is open
pub returns-in-0 : goal.returns-in-0
returns-in-0 c = record { is = λ k i. c.none_open.ensures.is _ ∙ kind_none _ (sym (c.callback.ensures _) ∙ c.in-0.is) }

-- suspend
pub returns-in-1 : goal.returns-in-1
returns-in-1 c = record { is = λ k i. rw (c.asked.ensures c.args.words.now) at c.asked_open.ensures ∙ kind_suspend _ (sym (c.callback.ensures _) ∙ c.in-1.is) }

-- resume
pub returns-in-2 : goal.returns-in-2
returns-in-2 c = record { is = λ k i. c.resume_open.ensures.is k i ∙ kind_resume _ (sym (c.callback.ensures _) ∙ c.in-2.is) }

-- idle
pub returns-in-3 : goal.returns-in-3
returns-in-3 c = record { is = λ k i. c.asked_open-in-3.ensures ∙ kind_idle _ (sym (c.callback.ensures _) ∙ c.in-3.is) }

-- a number that is no kind
pub returns-in_default : goal.returns-in_default
returns-in_default c =
    let n0 : c.callback.result ≢ 0 = omega arith in
    let n1 : c.callback.result ≢ 1 = omega arith in
    let n2 : c.callback.result ≢ 2 = omega arith in
    let n3 : c.callback.result ≢ 3 = omega arith in
    record { is = λ k i. let e = c.callback.ensures _ in kind_other _ (λ z. n0 (e ∙ z)) (λ z. n1 (e ∙ z)) (λ z. n2 (e ∙ z)) (λ z. n3 (e ∙ z)) }
