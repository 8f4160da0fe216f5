-- `export_tables::tests_load` meets its contract, by those of `load` and `code`. Assumes nothing.
use mathlib.Core.Path.{ap, ◌∙◌}
use Rattle.model.specs.State.{Loaded}
use Rattle.export_tables.specs.Loads.{coded}
use Rattle.export_tables.proofs.tests_load.Goals as goal

-- the one exit
pub returns : goal.returns
returns c =
    let loaded = c.load-loaded.ensures in
    record { code = rw (c.number.ensures, c.index.ensures) at c.code.ensures ∙ ap (λ (l : Loaded). coded l.answer) loaded; state = ap (λ (l : Loaded). l.state) loaded }
