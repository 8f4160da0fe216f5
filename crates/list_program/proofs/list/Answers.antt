-- `list_program::list` meets its contract: a refused table is told, one that is taken listed. Assumes nothing.
use mathlib.Core.Path.{sym, ◌∙◌, ap}
use Rattle.std.specs.Prelude.{Result, ⊤}
use Rattle.model.specs.Table.{TableAnswer}
use Rattle.table.specs.declared.Refusal.{Refusal}
use Rattle.table.specs.Answers.{answer_of}
use Rattle.table.proofs.Handing.{refused}
use Rattle.list_program.proofs.list.Goals as goal

-- refused
pub returns-in-Err : goal.returns-in-Err
returns-in-Err g c =
    let number = ap (λ (a : TableAnswer). a.number) c.judge.ensures in
    let is = ap (λ (a : Result ⊤ Refusal). (answer_of a).number) c.in-Err.is in
    record { refused = λ z. c.refuse.ensures; taken = λ z. absurd (refused c.in-Err.refusal (sym is ∙ number ∙ z)) }

-- taken
pub returns-in-Ok : goal.returns-in-Ok
returns-in-Ok g c =
    let number = ap (λ (a : TableAnswer). a.number) c.judge.ensures in
    let taken = ap (λ (a : Result ⊤ Refusal). (answer_of a).number) c.in-Ok.is in
    record { refused = λ z. absurd (z (sym number ∙ taken)); taken = λ z. c.entries.ensures }
