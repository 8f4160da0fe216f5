-- `request_wake::get_wake` meets its contract: the get's own answer where it was -75, else the wake from the state that the get left.
-- Assumes nothing.
use mathlib.Core.Path.{◌∙◌}
use Rattle.model.specs.Requests.{get, wake, get_wake}
use Rattle.memory.specs.Layout.{state_in}
use Rattle.memory.proofs.Readiness.{stays_full}
use Rattle.request_hold.proofs.Chained.{held_stop, held_go, get_stays}
use Rattle.request_wake.proofs.Changes.{get_indexed, get_count}
use Rattle.request_wake.proofs.get_wake.Goals as goal

-- the get was -75
pub returns-then-code-ne0 : goal.returns-then-code-ne0
unfolding get get_wake
returns-then-code-ne0 c =
    let a = c.args in
    record {
      is = λ h l. rw c.finished.ensures (held_stop _ _ _ _ _ (λ s. wake s a.p) _ (c.get-code.ensures _) c.if-code-ne0.true);
      stays = λ f. get_stays (state_in a.bytes.now a.words.now) _ _ _ (c.get-code.ensures _);
    }

-- the wake follows
pub returns : goal.returns
unfolding get get_wake
returns c =
    let a = c.args in
    record {
      is =
          λ h l.
          let held = c.get-code.ensures a.bytes.now in
          held_go _ _ _ _ _ (λ s. wake s a.p) _ held c.if-code-ne0.false
          ∙ c.wake.ensures.is (get_indexed _ _ _ _ held h) (get_count (state_in a.bytes.now a.words.now) _ _ _ held l);
      stays =
          λ f.
          let e = get_stays (state_in a.bytes.now a.words.now) _ _ _ (c.get-code.ensures a.bytes.now) in
          c.wake.ensures.stays (stays_full _ _ _ _ e f) ∙ e;
    }
