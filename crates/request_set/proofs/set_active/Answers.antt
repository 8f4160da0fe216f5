-- Each exit is one test of the definition; the last is a law over states (Downs.antt). Assumes nothing.
use Rattle.model.specs.Logic.{when◌then◌else◌}
use mathlib.Core.Path.{refl, sym, ◌∙◌, ap}
use Rattle.memory.specs.Ready.{fixed}
use Rattle.counts.proofs.Turning.{turned_on}
use Rattle.model.specs.Requests.{set_active}
use Rattle.request_set.proofs.Downs.{active_set}
use Rattle.request_set.proofs.set_active.Goals as goal

-- its status cannot be set
pub returns-then-running : goal.returns-then-running
unfolding set_active when◌then◌else◌
returns-then-running c = record { is = λ h l. rw (← c.running.ensures, c.if-running.true, c.finished.ensures); stays = λ f. refl }

-- its parent is down
pub returns-then-parent_down : goal.returns-then-parent_down
unfolding set_active when◌then◌else◌
returns-then-parent_down c =
    record { is = λ h l. rw (← c.running.ensures, c.if-running.false, ← c.parent_down.ensures, c.if-parent_down.true, c.finished-then-parent_down.ensures); stays = λ f. refl }

-- a supplier is down
pub returns-then-supplier_down : goal.returns-then-supplier_down
unfolding set_active when◌then◌else◌
returns-then-supplier_down c =
    record {
      is =
          λ h l.
          rw (← c.running.ensures, c.if-running.false, ← c.parent_down.ensures, c.if-parent_down.false, ← c.supplier_down.ensures.is _ h, c.if-supplier_down.true, c.finished-then-supplier_down.ensures);
      stays = λ f. refl;
    }

-- it turns active, and the error is forgotten
pub returns : goal.returns
returns c =
    record {
      is =
          λ h l.
          rw c.finished-2.ensures
          (active_set _ _ (sym c.running.ensures ∙ c.if-running.false) (c.set_error.ensures _) (sym (c.parent_down.ensures _) ∙ c.if-parent_down.false)
          (sym (c.supplier_down.ensures.is _ h) ∙ c.if-supplier_down.false) (c.set_status.ensures.is h l));
      stays = λ f. ap fixed (c.set_error.ensures _) ∙ turned_on c.set_status.ensures;
    }
