-- A refused state is told; from the bench of one that is taken the log goes on, and the bench that is saved and told is the last one. Assumes
-- nothing.
use mathlib.Core.Path.{◌≡◌, refl, sym, ap, ◌∙◌}
use mathlib.Core.Logic.{⊎_elim}
use native.Mathlib.Omega.{arith}
use Rattle.saved_answer.specs.declared.RestoreRefusal.{RestoreRefusal}
use Rattle.saved_answer.specs.declared.RestoreRefusal.TheVariants.{Short, Mark, Version, Length, Unsound}
use Rattle.saved_answer.specs.Answers.{restore_refusal, restoring_of}
use Rattle.saved_form.specs.Restoring.{Restored}
use Rattle.replay_session.proofs.Sessions.{ran_done, ran_failed, judged_refused, judged_taken}
use Rattle.resume_program.proofs.resume.Goals as goal

-- a refusal has a number
numbered : (r : RestoreRefusal) → restore_refusal r ≡ 0 → ⊥
numbered Short z = omega arith
numbered Mark z = omega arith
numbered Version z = omega arith
numbered Length z = omega arith
numbered Unsound z = omega arith

-- ---- exits
-- the state is refused
pub returns-in-Err : goal.returns-in-Err
returns-in-Err g c =
    let number = sym (ap restoring_of c.in-Err.is) ∙ ap (λ (r : Restored). r.number) c.restore-restored.ensures in
    judged_refused (λ z. numbered c.in-Err.refusal (number ∙ z)) c.refuse.ensures

-- the replay of the log ends early
pub returns-in_default-end : goal.returns-in_default-end
returns-in_default-end g c =
    let number = ap (λ (r : Restored). r.number) c.restore-restored.ensures in
    judged_taken (sym number ∙ ap restoring_of c.in_default.is) c.named-session.ensures.ran

-- what was fed, from its bench on
pub keep-kept-requires : goal.keep-kept-requires
keep-kept-requires g c =
    record {
      restore = record { bytes = c.args.state.now; result = c.restore-restored.result };
      given = refl;
      met = c.restore-restored.ensures;
      taken = ap restoring_of c.in_default.is;
      poured = c.named-session.ensures.poured;
    }

-- the bench cannot be saved
pub returns-in_default-kept : goal.returns-in_default-kept
returns-in_default-kept g c =
    let number = ap (λ (r : Restored). r.number) c.restore-restored.ensures in
    judged_taken (sym number ∙ ap restoring_of c.in_default.is) c.keep-kept.ensures

pub tell-requires : goal.tell-requires
tell-requires g c =
    record {
      restore = record { bytes = c.args.state.now; result = c.restore-restored.result };
      given = refl;
      met = c.restore-restored.ensures;
      taken = ap restoring_of c.in_default.is;
      poured = c.named-session.ensures.poured;
    }

-- the state is told
pub returns : goal.returns
returns g c =
    let number = ap (λ (r : Restored). r.number) c.restore-restored.ensures in
    judged_taken (sym number ∙ ap restoring_of c.in_default.is) (⊎_elim ran_done ran_failed c.tell.ensures)
