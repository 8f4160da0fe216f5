-- The callback read from the memory is taken apart; each kind goes on as its own result. Assumes nothing.
use mathlib.Core.Path.{refl, ◌∙◌}
use Rattle.memory.specs.Layout.{state_in}
use Rattle.record_step.proofs.Stepping.{result_none, result_other, target_is, result_suspend, result_resume, result_idle}
use Rattle.record_step.proofs.result.Goals as goal

-- none is open
pub returns-in_default : goal.returns-in_default
returns-in_default c =
    record { is = λ h l. rw c.refused.ensures (result_none _ _ _ (c.in_default.ensures _)); stays = λ f. refl }

-- another device was asked
pub returns-then-p-asked : goal.returns-then-p-asked
returns-then-p-asked c =
    record {
      is = λ h l. rw c.refused-then-p-asked.ensures (result_other _ _ _ _ _ _ (c.in-Some.ensures _) c.if-p-asked.true);
      stays = λ f. refl;
    }

-- a suspend callback
pub returns-in-Suspend : goal.returns-in-Suspend
returns-in-Suspend c =
    record {
      is =
          λ h l.
          result_suspend _ _ _ _ _ (rw c.in-Suspend.is at (c.in-Some.ensures c.args.words.now)) c.if-p-asked.false
          ∙ c.suspend_result.ensures.is h (rw c.if-p-asked.false at l);
      stays = c.suspend_result.ensures.stays;
    }

-- a resume callback
pub returns-in-Resume : goal.returns-in-Resume
returns-in-Resume c =
    record {
      is =
          λ h l.
          let e = rw c.in-Resume.is at (c.in-Some.ensures c.args.words.now) in
          result_resume _ _ _ _ _ e c.if-p-asked.false
          ∙ c.resume_result.ensures.is (rw (target_is ((state_in c.args.bytes.now c.args.words.now)) 0 0 _ _ _ e) h.ready.target) h (rw c.if-p-asked.false at l);
      stays = c.resume_result.ensures.stays;
    }

-- an idle callback
pub returns-in-Idle : goal.returns-in-Idle
returns-in-Idle c =
    record {
      is =
          λ h l.
          result_idle _ _ _ _ _ (rw c.in-Idle.is at (c.in-Some.ensures c.args.words.now)) c.if-p-asked.false
          ∙ c.idle_result.ensures.is h (rw c.if-p-asked.false at l);
      stays = c.idle_result.ensures.stays;
    }
