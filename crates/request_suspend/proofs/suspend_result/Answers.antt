-- The status is set and the callback closed; the laws of Changes.antt say what each exit makes of that. Assumes nothing.
use mathlib.Core.Path.{sym, ◌∙◌, ap}
use borrow.Author.Tests.{eq-eqb, ne_eqb}
use Rattle.memory.specs.Ready.{fixed}
use Rattle.memory.proofs.Readiness.{long_turned, then_callback}
use Rattle.counts.proofs.Turning.{turned_on}
use Rattle.request_suspend.proofs.Changes.{result_0, result_passing, result_kept}
use Rattle.request_suspend.proofs.suspend_result.Goals as goal

-- 0: suspended
pub returns-then-v-eq0 : goal.returns-then-v-eq0
returns-then-v-eq0 c =
    record {
      is =
          λ h l.
          let e = c.set_status.ensures.is h l in
          let shut = c.set_callback.ensures _ (long_turned _ _ _ _ _ h.ready e) in
          rw c.finished.ensures (result_0 _ _ _ e shut c.settled.ensures (eq-eqb _ _ c.if-v-eq0.true));
      stays = then_callback _ _ _ _ _ _ _ _ (turned_on c.set_status.ensures) c.set_callback.ensures;
    }

-- -11 or -16: active, and nothing is kept
pub returns-then-passing : goal.returns-then-passing
returns-then-passing c =
    record {
      is =
          λ h l.
          let e = c.set_status.ensures.is h l in
          let shut = c.set_callback.ensures _ (long_turned _ _ _ _ _ h.ready e) in
          rw c.finished-then-passing.ensures
          (result_passing _ _ _ e shut c.settled.ensures (ne_eqb _ _ c.if-v-eq0.false) (sym c.passing.ensures ∙ c.if-passing.true));
      stays = then_callback _ _ _ _ _ _ _ _ (turned_on c.set_status.ensures) c.set_callback.ensures;
    }

-- any other value: active, and it is kept as the error
pub returns : goal.returns
returns c =
    record {
      is =
          λ h l.
          let e = c.set_status.ensures.is h l in
          let shut = c.set_callback.ensures _ (long_turned _ _ _ _ _ h.ready e) in
          rw c.finished-2.ensures
          (result_kept _ _ _ e shut c.settled.ensures (ne_eqb _ _ c.if-v-eq0.false) (sym c.passing.ensures ∙ c.if-passing.false)
          (c.set_error.ensures _) c.magnitude.ensures);
      stays =
          λ f.
          ap fixed (c.set_error.ensures _) ∙ then_callback _ _ _ _ _ _ _ _ (turned_on c.set_status.ensures) c.set_callback.ensures f;
    }
