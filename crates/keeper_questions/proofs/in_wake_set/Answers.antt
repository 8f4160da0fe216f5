-- `keeper_questions::in_wake_set` meets its contract: a sound bench has its devices and links in order, so the marks are those of the wake
-- set. Assumes nothing.
use Rattle.model.specs.WakeSet.{in_wake}
use Rattle.model.proofs.Logic.{tests}
use Rattle.links.specs.Firsts.{Listed}
use Rattle.keeper_bench.specs.Translate.{state_of}
use Rattle.keeper_questions.proofs.Telling.{refused, answered}
use Rattle.keeper_questions.proofs.in_wake_set.Goals as goal

pub returns-in-Err-Unsound : goal.returns-in-Err-Unsound
returns-in-Err-Unsound c = refused (rw (c.in-Err-Unsound.is, c.in-Err-Unsound.field-0-is) at c.about_both.ensures) _

pub returns-in-Err-Unknown : goal.returns-in-Err-Unknown
returns-in-Err-Unknown c = refused (rw (c.in-Err-Unknown.is, c.in-Err-Unknown.field-0-is) at c.about_both.ensures) _

pub returns : goal.returns
unfolding in_wake
returns c =
    let b = c.args.b in
    let (s, k) = c.in-Ok.ensures.passes in
    let o = s.kept.table.order in
    let listed : Listed (state_of b).wiring c.index-first.result = record { order = o; index = c.index-first.ensures.is o.links } in
    let known = simp tests at k in
    answered c.in-Ok.ensures (rw (c.from.ensures, c.wake_set-marks.ensures.is b.words listed known.0))
