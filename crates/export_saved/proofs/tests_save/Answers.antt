-- `export_saved::tests_save` meets its contract, by that of `save`. Assumes nothing.
use mathlib.Core.Path.{ap, ◌∙◌}
use Rattle.saved_form.specs.Saving.{Saved}
use Rattle.export_saved.proofs.tests_save.Goals as goal

-- the one exit
pub returns : goal.returns
returns c =
    let saved = c.save-answer.ensures in
    record {
      number = c.from.ensures ∙ (c.save_number.ensures ∙ ap (λ (s : Saved). s.number) saved);
      buffer = ap (λ (s : Saved). s.buffer) saved;
    }
