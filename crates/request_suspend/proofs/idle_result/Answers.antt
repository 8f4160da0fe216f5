-- The callback is closed first; what follows goes on from that state, which is ready too. Assumes nothing.
use mathlib.Core.Path.{◌∙◌}
use Rattle.model.specs.Logic.{when◌then◌else◌}
use borrow.Author.Tests.{eq-eqb, ne_eqb}
use Rattle.model.specs.Steps.{idle_result}
use Rattle.memory.proofs.Readiness.{long, ready_closed, callback_stays, stays_full}
use Rattle.request_suspend.proofs.idle_result.Goals as goal

-- any value but 0 finishes the request
pub returns-then-v-ne0 : goal.returns-then-v-ne0
unfolding idle_result when◌then◌else◌
returns-then-v-ne0 c =
    record {
      is = λ h l. rw (c.set_callback.ensures _ (long _ _ h.ready), ne_eqb _ _ c.if-v-ne0.true, c.finished.ensures);
      stays = callback_stays _ _ _ _ _ _ c.set_callback.ensures;
    }

-- 0 goes on to suspending
pub returns : goal.returns
unfolding idle_result when◌then◌else◌
returns c =
    record {
      is =
          λ h l.
          let e = c.set_callback.ensures c.args.words.now (long _ _ h.ready) in
          rw (← e, eq-eqb _ _ c.if-v-ne0.false) (c.ask_suspend.ensures.is (rw e (record { ready = ready_closed h.ready; index = h.index })) (rw e l));
      stays =
          λ f.
          let shut = callback_stays _ _ c.args.words.now _ _ _ c.set_callback.ensures f in
          c.ask_suspend.ensures.stays (stays_full _ _ _ _ shut f) ∙ shut;
    }
