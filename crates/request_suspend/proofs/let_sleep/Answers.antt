-- Kind 6's put was -75 or left the device in use, and ends the request; else the code chosen is 0 only where every test of the kind
-- passed, and otherwise it is that of the first that did not. Assumes nothing.
use mathlib.Core.Path.{◌≡◌, refl, ◌∙◌}
use mathlib.Core.Bool.{not}
use lib.Dec.{eqb, ltb}
use borrow.Author.Tests.{lt-ltb, le-ltb}
use Rattle.model.specs.Logic.{◌or◌}
use Rattle.model.proofs.Basics.{never}
use Rattle.memory.specs.Layout.{state_in}
use Rattle.memory.proofs.Readiness.{full_long}
use Rattle.request_suspend.proofs.Changes.{rest_code, code_of, idle_stops, idle_asks, suspend_stops, suspend_asks, ends, slept_stop, slept_go}
use Rattle.request_suspend.proofs.let_sleep.Goals as goal
use Rattle.request_suspend.proofs.let_sleep.Goals.{After-still_used, After-choose-code}

-- the code is the kind's
coded : (c : After-choose-code) → let a = c.args in
    c.choose-code.result ≡ rest_code (state_in a.bytes.now c.put_first-put.new.words) a.p (ltb a.kind 8)
coded c =
    let waking = rw (c.status.ensures c.put_first-put.new.words) at c.choose-awake.ensures in
    let sleeping = rw (c.status-2.ensures c.put_first-put.new.words) at c.choose-asleep.ensures in
    code_of _ _ _ c.suspend_test-test.ensures waking sleeping c.choose-own.ensures c.choose-code.ensures

-- whether the request ends there
ends_by : (c : After-still_used) → let put = c.put_first-put in let a = c.args in
    ends a.kind (state_in a.bytes.now put.new.words) a.p put.result ≡ (not (eqb put.result 0) or c.still_used.result)
ends_by c = rw (c.still_used.ensures c.args.bytes.now)

-- the put was -75, or the device is still in use
pub returns-then-put-still_used : goal.returns-then-put-still_used
returns-then-put-still_used c = slept_stop c.put_first-put.ensures _ c.finished.ensures (ends_by (goal.at.returns-then-put-still_used c).After-still_used ∙ c.if-put-still_used.true)

-- a test fails
pub returns-then-code-gt0 : goal.returns-then-code-gt0
returns-then-code-gt0 c =
    let code = coded (goal.at.returns-then-code-gt0 c).After-choose-code in
    slept_go c.put_first-put.ensures (ends_by (goal.at.returns-then-code-gt0 c).After-still_used ∙ c.if-put-still_used.false) (record {
      idling = λ e. record { is = λ h. rw c.finished-then-code-gt0.ensures (idle_stops _ _ code e c.if-code-gt0.true) };
      suspending = λ e. record { is = λ h l. rw c.finished-then-code-gt0.ensures (suspend_stops _ _ code e c.if-code-gt0.true); stays = λ f. refl };
    })

-- its idle callback is asked for
pub returns-then-kind-lt8 : goal.returns-then-kind-lt8
returns-then-kind-lt8 c =
    slept_go c.put_first-put.ensures (ends_by (goal.at.returns-then-kind-lt8 c).After-still_used ∙ c.if-put-still_used.false) (record {
      idling =
          λ e.
          record {
            is =
                λ h.
                rw (c.set_callback.ensures _ (full_long _ _ h), c.ask.ensures, c.number-idle.ensures) (idle_asks _ _ (coded (goal.at.returns-then-kind-lt8 c).After-choose-code) e c.if-code-gt0.false);
          };
      suspending = λ e. never (lt-ltb _ _ c.if-kind-lt8.true) e;
    })

-- it is asked to suspend
pub returns : goal.returns
returns c =
    slept_go c.put_first-put.ensures (ends_by (goal.at.returns c).After-still_used ∙ c.if-put-still_used.false) (record {
      idling = λ e. never e (le-ltb _ _ c.if-kind-lt8.false);
      suspending =
          λ e.
          record {
            is = λ h l. suspend_asks _ _ (coded (goal.at.returns c).After-choose-code) e c.if-code-gt0.false ∙ c.ask_suspend.ensures.is h l;
            stays = c.ask_suspend.ensures.stays;
          };
    })
