-- A value that the kind allows is 0 or 1. Assumes nothing.
use mathlib.Core.Path.{refl, sym, ◌∙◌, ap}
use Rattle.memory.specs.Ready.{fixed}
use Rattle.model.proofs.Values.{flag_low}
use Rattle.request_set.proofs.Downs.{ignore_on, ignore_busy, ignore_off}
use Rattle.request_set.proofs.ignore_children.Goals as goal

-- turned on
pub returns-then-v-gt0 : goal.returns-then-v-gt0
returns-then-v-gt0 c =
    record {
      is = λ a words. record { is = λ h. rw c.finished.ensures (ignore_on _ _ _ (flag_low _ a) c.if-v-gt0.true (c.set_ignore.ensures words)) };
      stays = λ words. ap fixed (c.set_ignore.ensures words);
    }

-- not turned off: it is not active and has powered children
pub returns-then-inactive_with_children : goal.returns-then-inactive_with_children
returns-then-inactive_with_children c =
    let off = c.if-v-gt0.false in
    record {
      is = λ a words. record { is = λ h. rw c.finished-then-inactive_with_children.ensures (ignore_busy _ _ _ off (sym (c.inactive_with_children.ensures words) ∙ c.if-inactive_with_children.true)) };
      stays = λ words. refl;
    }

-- turned off
pub returns : goal.returns
returns c =
    let off = c.if-v-gt0.false in
    record {
      is =
          λ a words.
          record {
            is =
                λ h.
                rw c.finished-2.ensures
                (ignore_off _ _ _ off (sym (c.inactive_with_children.ensures words) ∙ c.if-inactive_with_children.false) (c.set_ignore-2.ensures words));
          };
      stays = λ words. ap fixed (c.set_ignore-2.ensures words);
    }
