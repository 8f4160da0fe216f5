-- `request_wake::resume_result` meets its contract: the status is set and the callback closed; then the wake goes on from that state, or
-- its failure is kept and told. Assumes nothing.
use borrow.Author.Tests.{eq-eqb, ne_eqb}
use mathlib.Core.Path.{◌∙◌, ap}
use Rattle.memory.specs.Layout.{state_in}
use Rattle.memory.specs.Ready.{fixed}
use Rattle.memory.proofs.Readiness.{long_turned, then_callback, stays_full}
use Rattle.counts.proofs.Turning.{turned_on}
use Rattle.request_wake.proofs.Changes.{result_goes, result_failed, goes_indexed, goes_target}
use Rattle.request_wake.proofs.resume_result.Goals as goal

-- it succeeded: the wake goes on
pub returns-then-v-eq0 : goal.returns-then-v-eq0
returns-then-v-eq0 c =
    let shut = then_callback _ _ _ _ _ _ _ _ (turned_on c.set_status.ensures) c.set_callback.ensures in
    record {
      is =
          λ lt h l.
          let set = c.set_status.ensures.is h l in
          let close = c.set_callback.ensures _ (long_turned _ _ _ _ _ h.ready set) in
          result_goes _ _ _ _ set close (eq-eqb _ _ c.if-v-eq0.true)
          ∙ c.go_on.ensures.is (goes_indexed _ _ 0 0 l h set close) (goes_target ((state_in c.args.bytes.now c.args.words.now)) c.args.p _ 0 lt set close);
      stays = λ f. c.go_on.ensures.stays (stays_full _ _ _ _ (shut f) f) ∙ shut f;
    }

-- it failed
pub returns : goal.returns
returns c =
    let shut = then_callback _ _ _ _ _ _ _ _ (turned_on c.set_status-2.ensures) c.set_callback-2.ensures in
    record {
      is =
          λ lt h l.
          let set = c.set_status-2.ensures.is h l in
          let close = c.set_callback-2.ensures _ (long_turned _ _ _ _ _ h.ready set) in
          rw c.finished.ensures
          (result_failed _ _ _ _ set close (c.set_error.ensures _) c.magnitude.ensures c.failed.ensures
          (ne_eqb _ _ c.if-v-eq0.false));
      stays = λ f. ap fixed (c.set_error.ensures _) ∙ shut f;
    }
