-- Each exit is a law of the model's record: refused, a result, busy, or a request. Assumes nothing.
use mathlib.Core.Path.{refl, sym, ◌∙◌}
use native.Mathlib.Omega.{arith}
use Rattle.memory.specs.Layout.{state_in}
use Rattle.record_step.proofs.Stepping.{refusal_many, well_formed, is_request, record_refused, record_result, record_busy, record_asks}
use Rattle.record_step.proofs.step.Goals as goal

-- refusals 11 to 13
pub returns-in-Err : goal.returns-in-Err
returns-in-Err c =
    record {
      is = λ h. rw (c.refused.ensures, c.number.ensures) (record_refused _ _ (c.devices.ensures _) c.in-Err.ensures (refusal_many c.in-Err.refusal));
      stays = λ f. refl;
    }

-- a callback's result
pub returns-then-kind-eq-RESULT : goal.returns-then-kind-eq-RESULT
returns-then-kind-eq-RESULT c =
    record {
      is =
          λ h.
          let many = c.devices.ensures c.args.words.now in
          let told = c.in_default.ensures in
          record_result _ _ many told (omega arith) c.if-kind-eq-RESULT.true
          ∙ c.result.ensures.is h (well_formed ((state_in c.args.bytes.now c.args.words.now)) _ many told (omega arith)).known;
      stays = c.result.ensures.stays;
    }

-- a callback is open
pub returns-then-busy : goal.returns-then-busy
returns-then-busy c =
    record {
      is =
          λ h.
          rw c.finished.ensures
          (record_busy _ _ (c.devices.ensures _) c.in_default.ensures (omega arith) c.if-kind-eq-RESULT.false
          (sym (c.busy.ensures _) ∙ c.if-busy.true));
      stays = λ f. refl;
    }

-- a request
pub returns : goal.returns
returns c =
    record {
      is =
          λ h.
          let many = c.devices.ensures c.args.words.now in
          let told = c.in_default.ensures in
          record_asks _ _ many told (omega arith) c.if-kind-eq-RESULT.false (sym (c.busy.ensures _) ∙ c.if-busy.false)
          ∙ c.request.ensures.is (is_request ((state_in c.args.bytes.now c.args.words.now)) _ many told (omega arith) c.if-kind-eq-RESULT.false) h
          (well_formed ((state_in c.args.bytes.now c.args.words.now)) _ many told (omega arith)).known;
      stays = c.request.ensures.stays;
    }
