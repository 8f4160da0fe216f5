-- `replay_report::callback` meets its contract. Assumes nothing.
use native.Mathlib.Omega.{arith}
use borrow.Author.Tests.{ne_eqb}
use Rattle.model.specs.Logic.{when◌then◌else◌}
use Rattle.replay_text.specs.Text.{ascii}
use Rattle.replay_report.specs.Lines.{callback_text}
use Rattle.replay_text.proofs.Adding.{holds_start, holds_word, holds_field}
use Rattle.replay_report.proofs.callback.Goals as goal

-- none open
pub returns-in-0 : goal.returns-in-0
unfolding ascii callback_text when◌then◌else◌
returns-in-0 c =
    let h = holds_start c.start.ensures in
    rw c.in-0.is (holds_word (ascii "callback none\n") h c.word.ensures (omega arith)).line

-- suspend
pub returns-in-1 : goal.returns-in-1
unfolding ascii callback_text when◌then◌else◌
returns-in-1 c =
    let h = holds_start c.start-in-1.ensures in
    let g = holds_field (ascii "callback suspend ") c.args.asked h c.from.ensures c.field.ensures (omega arith) in
    rw c.in-1.is (holds_word (ascii "\n") g c.word-in-1.ensures (omega arith)).line

-- resume
pub returns-in-2 : goal.returns-in-2
unfolding ascii callback_text when◌then◌else◌
returns-in-2 c =
    let args = c.args in
    let h = holds_start c.start-in-2.ensures in
    let g = holds_field (ascii "callback resume ") args.asked h c.from-in-2.ensures c.field-asking.ensures (omega arith) in
    let i = holds_field (ascii " for ") args.target g c.from-in-2-2.ensures c.field-in-2.ensures (omega arith) in
    rw c.in-2.is (holds_word (ascii "\n") i c.word-in-2.ensures (omega arith)).line

-- idle
pub returns-in-3 : goal.returns-in-3
unfolding ascii callback_text when◌then◌else◌
returns-in-3 c =
    let h = holds_start c.start-in-3.ensures in
    let g = holds_field (ascii "callback idle ") c.args.asked h c.from-in-3.ensures c.field-in-3.ensures (omega arith) in
    rw c.in-3.is (holds_word (ascii "\n") g c.word-in-3.ensures (omega arith)).line

-- of a bench that is not sound
pub returns-in_default : goal.returns-in_default
unfolding ascii callback_text when◌then◌else◌
returns-in_default c =
    let k = c.args.kind in
    let h = holds_start c.start-in_default.ensures in
    rw (ne_eqb k 0 (λ z. omega arith), ne_eqb k 1 (λ z. omega arith), ne_eqb k 2 (λ z. omega arith), ne_eqb k 3 (λ z. omega arith)) (holds_word (ascii "callback unknown\n") h c.word-in_default.ensures (omega arith)).line
