-- One exit for the path of kinds 6, 7 and 8 and one for each other kind: its promise is the model's line of the kind. Assumes nothing.
use mathlib.Core.Path.{◌∙◌}
use Rattle.model.specs.Logic.{when◌then◌else◌}
use Rattle.model.specs.Steps.{request}
use Rattle.memory.specs.Layout.{state_in}
use Rattle.request_hold.proofs.Chained.{enable_stays, disable_stays, get_stays, put_stays}
use Rattle.record_request.proofs.Dispatching.{line_12, sleeping, past, past_sleeping, is_last, last_allowed}
use native.Mathlib.Omega.{arith}
use Rattle.std.proofs.Common.{◌≢◌}
use Rattle.record_request.proofs.request.Goals as goal

-- kinds 6, 7 and 8
pub returns-then-kind : goal.returns-then-kind
returns-then-kind c =
    sleeping c.if-kind.true c.let_sleep.ensures

-- enable
pub returns-in-1 : goal.returns-in-1
unfolding request when◌then◌else◌
returns-in-1 c =
    let done = c.enable.ensures in
    record { is = λ g h l. rw (c.in-1.is, c.finished.ensures) (done _); stays = λ f. enable_stays ((let a = c.args in state_in a.bytes.now a.words.now)) _ _ _ (done _) }

-- disable
pub returns-in-2 : goal.returns-in-2
unfolding request when◌then◌else◌
returns-in-2 c =
    let done = c.disable.ensures in
    record { is = λ g h l. rw (c.in-2.is, c.finished-in-2.ensures) (done _); stays = λ f. disable_stays ((let a = c.args in state_in a.bytes.now a.words.now)) _ _ _ (done _) }

-- get
pub returns-in-3 : goal.returns-in-3
unfolding request when◌then◌else◌
returns-in-3 c =
    let done = c.get.ensures in
    record { is = λ g h l. rw (c.in-3.is, c.finished-in-3.ensures) (done _); stays = λ f. get_stays ((let a = c.args in state_in a.bytes.now a.words.now)) _ _ _ (done _) }

-- get and wake
pub returns-in-4 : goal.returns-in-4
unfolding request when◌then◌else◌
returns-in-4 c = record { is = λ g h l. rw c.in-4.is (c.get_wake.ensures.is h l); stays = c.get_wake.ensures.stays }

-- put
pub returns-in-5 : goal.returns-in-5
unfolding request when◌then◌else◌
returns-in-5 c =
    let done = c.put.ensures in
    record { is = λ g h l. rw (c.in-5.is, c.finished-in-5.ensures) (done _); stays = λ f. put_stays ((let a = c.args in state_in a.bytes.now a.words.now)) _ _ _ (done _) }

-- wake
pub returns-in-9 : goal.returns-in-9
unfolding request when◌then◌else◌
returns-in-9 c = record { is = λ g h l. rw c.in-9.is (c.wake.ensures.is h l); stays = c.wake.ensures.stays }

-- set active
pub returns-in-10 : goal.returns-in-10
unfolding request when◌then◌else◌
returns-in-10 c = record { is = λ g h l. rw c.in-10.is (c.set_active.ensures.is h l); stays = c.set_active.ensures.stays }

-- set suspended
pub returns-in-11 : goal.returns-in-11
unfolding request when◌then◌else◌
returns-in-11 c = record { is = λ g h l. rw c.in-11.is (c.set_suspended.ensures.is h l); stays = c.set_suspended.ensures.stays }

-- ignore children: none of the other kinds
pub returns-in_default : goal.returns-in_default
returns-in_default c =
    let n1 : c.args.kind ≢ 1 = omega arith in
    let n2 : c.args.kind ≢ 2 = omega arith in
    let n3 : c.args.kind ≢ 3 = omega arith in
    let n4 : c.args.kind ≢ 4 = omega arith in
    let n5 : c.args.kind ≢ 5 = omega arith in
    let n9 : c.args.kind ≢ 9 = omega arith in
    let n10 : c.args.kind ≢ 10 = omega arith in
    let n11 : c.args.kind ≢ 11 = omega arith in
    record {
      is =
          λ g h l.
          let six = past (past (past (past (past g.low n1) n2) n3) n4) n5 in
          let nine = past_sleeping _ c.if-kind.false six in
          let twelve = is_last _ _ g (past (past (past nine n9) n10) n11) in
          line_12 _ _ _ twelve ∙ (c.ignore_children.ensures.is (last_allowed _ _ g twelve) _).is h.ready.carried;
      stays = λ f. c.ignore_children.ensures.stays _;
    }
