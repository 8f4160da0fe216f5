-- `export_tables::tests_write` meets its contract, by those of `write` and `write_code`. Assumes nothing.
use mathlib.Core.Path.{ap, ◌∙◌}
use Rattle.model.specs.Writing.{Writing}
use Rattle.export_tables.specs.Loads.{coded}
use Rattle.export_tables.proofs.tests_write.Goals as goal

-- the one exit
pub returns : goal.returns
returns c =
    let written = c.write-outcome.ensures in
    record { code = rw (c.number.ensures, c.index.ensures) at c.code.ensures ∙ ap (λ (w : Writing). coded w.answer) written; buffer = ap (λ (w : Writing). w.buffer) written }
