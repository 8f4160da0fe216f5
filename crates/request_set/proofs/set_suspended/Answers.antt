-- Each exit is one test of the definition; the last is a law over states (Downs.antt). Assumes nothing.
use Rattle.model.specs.Logic.{when◌then◌else◌}
use mathlib.Core.Path.{refl, sym, ◌∙◌, ap}
use Rattle.memory.specs.Ready.{fixed}
use Rattle.counts.proofs.Turning.{turned_on}
use Rattle.model.specs.Requests.{set_suspended}
use Rattle.request_set.proofs.Downs.{suspended_set}
use Rattle.request_set.proofs.set_suspended.Goals as goal

-- its status cannot be set
pub returns-then-running : goal.returns-then-running
unfolding set_suspended when◌then◌else◌
returns-then-running c = record { is = λ h l. rw (← c.running.ensures, c.if-running.true, c.finished.ensures); stays = λ f. refl }

-- it is needed
pub returns-then-needed : goal.returns-then-needed
unfolding set_suspended when◌then◌else◌
returns-then-needed c =
    record { is = λ h l. rw (← c.running.ensures, c.if-running.false, ← c.needed.ensures, c.if-needed.true, c.finished-then-needed.ensures); stays = λ f. refl }

-- it turns suspended, and the error is forgotten
pub returns : goal.returns
returns c =
    record {
      is =
          λ h l.
          rw c.finished-2.ensures
          (suspended_set _ _ (sym c.running.ensures ∙ c.if-running.false) (c.set_error.ensures _) (sym c.needed.ensures ∙ c.if-needed.false) (c.set_status.ensures.is h l));
      stays = λ f. ap fixed (c.set_error.ensures _) ∙ turned_on c.set_status.ensures;
    }
