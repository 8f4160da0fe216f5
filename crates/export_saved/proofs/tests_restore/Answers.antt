-- `export_saved::tests_restore` meets its contract, by that of `restore`. Assumes nothing.
use mathlib.Core.Path.{ap, ◌∙◌}
use Rattle.saved_form.specs.Restoring.{Restored}
use Rattle.export_saved.proofs.tests_restore.Goals as goal

-- the one exit
pub returns : goal.returns
returns c =
    let restored = c.restore-restored.ensures in
    record {
      number = c.from.ensures ∙ (c.restore_number.ensures ∙ ap (λ (s : Restored). s.number) restored);
      state = ap (λ (s : Restored). s.state) restored;
    }
