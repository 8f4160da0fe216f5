-- `request_wake::wake` meets its contract: the model's tests are made one after another, each exit has the facts of those passed, and a
-- law of `Changes` says what the model then answers. Assumes nothing.
use mathlib.Core.Path.{◌≡◌, refl, ◌∙◌}
use mathlib.Core.Bool.{false}
use lib.Dec.{ltb, eqb}
use borrow.Author.Tests.{eq-eqb, ne_eqb, lt-ltb, le-ltb}
use Rattle.model.specs.State.{ACTIVE, error_at, status_at}
use Rattle.memory.specs.Layout.{state_in}
use Rattle.links.proofs.Order.{listed}
use Rattle.request_wake.proofs.Changes.{lowest_asleep, Clear, wake_error, wake_disabled, wake_active, wake_barred, wake_asks}
use Rattle.request_wake.proofs.wake.Goals as goal
use Rattle.request_wake.proofs.wake.Goals.{Else-depth-gt0, Else-error-gt0, Else-status-eq-ACTIVE}

-- what is known past each test
no_error : (c : Else-error-gt0) → ltb 0 (error_at ((state_in c.args.bytes.now c.args.words.now)) c.args.p) ≡ false
no_error c = rw (← c.error.ensures) (le-ltb _ _ c.if-error-gt0.false)

clear : (c : Else-depth-gt0) → Clear ((state_in c.args.bytes.now c.args.words.now)) c.args.p
clear c =
    let no_error : ltb 0 (error_at ((state_in c.args.bytes.now c.args.words.now)) c.args.p) ≡ false = rw (← c.error.ensures) (le-ltb _ _ c.if-error-gt0.false) in
    record { error = no_error; depth = rw (← c.depth.ensures) (le-ltb _ _ c.if-depth-gt0.false) }

inactive : (c : Else-status-eq-ACTIVE) → eqb (status_at ((state_in c.args.bytes.now c.args.words.now)) c.args.p) ACTIVE ≡ false
inactive c = rw (← c.status.ensures) (ne_eqb _ _ c.if-status-eq-ACTIVE.false)

-- it has an error
pub returns-then-error-gt0 : goal.returns-then-error-gt0
returns-then-error-gt0 c =
    record {
      is = λ h l. rw c.finished.ensures (wake_error _ _ (rw (← c.error.ensures) (lt-ltb _ _ c.if-error-gt0.true)));
      stays = λ f. refl;
    }

-- it is disabled
pub returns-then-depth-gt0 : goal.returns-then-depth-gt0
returns-then-depth-gt0 c =
    record {
      is = λ h l. rw c.finished-then-depth-gt0.ensures (wake_disabled _ _ (no_error (goal.at.returns-then-depth-gt0 c).Else-error-gt0) (rw (← c.depth.ensures) (lt-ltb _ _ c.if-depth-gt0.true)));
      stays = λ f. refl;
    }

-- it is active
pub returns-then-status-eq-ACTIVE : goal.returns-then-status-eq-ACTIVE
returns-then-status-eq-ACTIVE c =
    record {
      is = λ h l. rw c.finished-then-status-eq-ACTIVE.ensures (wake_active _ _ (clear (goal.at.returns-then-status-eq-ACTIVE c).Else-depth-gt0) (rw (← c.status.ensures) (eq-eqb _ _ c.if-status-eq-ACTIVE.true)));
      stays = λ f. refl;
    }

-- another member is barred
pub returns-then-found : goal.returns-then-found
returns-then-found c =
    record {
      is =
          λ h l.
          rw c.finished-then-found.ensures
          (wake_barred _ _ (clear (goal.at.returns-then-found c).Else-depth-gt0) (inactive (goal.at.returns-then-found c).Else-status-eq-ACTIVE) (rw (c.reached-found.ensures.barred (listed h) l) at c.if-found.true));
      stays = λ f. refl;
    }

-- the lowest member is asked
pub returns : goal.returns
returns c =
    record {
      is =
          λ h l.
          let low = c.reached-found.ensures.low.is _ (listed h) l in
          let free = rw (c.reached-found.ensures.barred (listed h) l) at c.if-found.false in
          wake_asks _ _ (clear (goal.at.returns c).Else-depth-gt0) (inactive (goal.at.returns c).Else-status-eq-ACTIVE) free low
          ∙ c.ask_resume.ensures.is _ h.ready (rw low (lowest_asleep h.ready _ l));
      stays = c.ask_resume.ensures.stays _;
    }
