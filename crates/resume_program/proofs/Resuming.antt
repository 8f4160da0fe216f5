-- Demand 3 for what the program fed: the plain keeper starts from the saved bench. Assumes nothing.
use mathlib.Core.Path.{◌≡◌, sym, ap, ◌∙◌}
use mathlib.Core.List.{List}
use Prim.Native.Nat.{ℕ}
use Rattle.keeper_bench.specs.Translate.{state_of}
use Rattle.keeper.specs.Calls.{Agreed}
use Rattle.keeper.proofs.Calls.{agreed_at}
use Rattle.replay_pieces.specs.declared.turn.Progress.{Progress}
use Rattle.saved_form.specs.Restoring.{Restored, restore_of}
use Rattle.saved_form.proofs.Laws.{restores_sound}
use Rattle.resume_program.specs.Resumed.{Resumed}

pub resumed_agrees : {bytes : List ℕ} {p : Progress} (r : Resumed bytes p) → Agreed (restore_of bytes).state (state_of p.bench) r.poured.calls
resumed_agrees {bytes} {p} r =
    let b = r.restore.result.bench in
    let cs = r.poured.calls in
    let z : state_of b ≡ (restore_of r.restore.bytes).state = ap (λ (x : Restored). x.state) r.met in
    let taken : (restore_of r.restore.bytes).number ≡ 0 = sym (ap (λ (x : Restored). x.number) r.met) ∙ r.taken in
    rw (← r.given, ← r.poured.bench)
    (agreed_at (restore_of r.restore.bytes).state b cs (restores_sound r.restore.bytes taken) z r.poured.linked r.poured.met)
