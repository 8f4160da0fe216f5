-- `c_host::keeper_load` meets its contract: a refusal comes before anything is written, and the bench of a table that is taken is sound.
-- Assumes nothing.
use mathlib.Core.Path.{sym, ◌∙◌}
use mir.Facts.{to_z-of_z}
use Rattle.model.specs.Logic.{when◌then◌else◌}
use Rattle.saved_write.proofs.Saving.{saved_as}
use Rattle.saved_answer.specs.Answers.{save_refusal}
use Rattle.saved_answer.proofs.Numbers.{saving_refused}
use Rattle.c_calls.specs.Numbers.{answered}
use Rattle.c_calls.proofs.Answers.{answered_refused}
use Rattle.c_calls.proofs.Calling.{load_refused, load_saved, loaded_sound}
use Rattle.c_host.proofs.keeper_load.Goals as goal

-- by its own number
pub returns-then-fault-ne0 : goal.returns-then-fault-ne0
returns-then-fault-ne0 c =
    rw (to_z-of_z (record { sfits = c.refused.type_inv }), c.refused.ensures, c.number-fault.ensures)
    (load_refused _ _ c.load-loaded.ensures (λ e. c.if-fault-ne0.true (c.number-fault.ensures ∙ e)))

-- too little room
pub returns-in-Err : goal.returns-in-Err
returns-in-Err c =
    let gave = c.load-loaded.ensures in
    let taken = sym c.number-fault.ensures ∙ c.if-fault-ne0.false in
    let unwritten = saved_as _ _ _ (loaded_sound _ gave taken) c.in-Err.ensures in
    rw (to_z-of_z (record { sfits = c.refused-in-Err.type_inv }), c.refused-in-Err.ensures, c.number.ensures, ← answered_refused (save_refusal c.in-Err.refusal) 0 (saving_refused c.in-Err.refusal))
    (load_saved _ _ gave taken unwritten)

-- taken
pub returns : goal.returns
unfolding answered when◌then◌else◌
returns c =
    let gave = c.load-loaded.ensures in
    let taken = sym c.number-fault.ensures ∙ c.if-fault-ne0.false in
    let written = saved_as _ _ _ (loaded_sound _ gave taken) c.in_default.ensures in
    load_saved _ _ gave taken written
