-- The status, then the callback; neither status is powered, so that no count moves. Assumes nothing.
use mathlib.Core.Path.{◌∙◌, ap}
use native.Mathlib.Omega.{arith}
use Rattle.model.specs.Limits.{ROWS}
use Rattle.model.specs.State.{RESUMING}
use Rattle.memory.specs.Layout.{state_in}
use Rattle.memory.specs.Ready.{fixed}
use Rattle.memory.proofs.Readiness.{status_row, long_turned, then_callback}
use Rattle.counts.proofs.Turning.{both_asleep, turned_same}
use Rattle.request_wake.specs.Wakes.{resume_of}
use Rattle.request_wake.proofs.ask_resume.Goals as goal

pub returns : goal.returns
unfolding resume_of ROWS
returns c =
    let row = c.ranges.q in
    record {
      is =
          λ words h z.
          let turned =
          c.set_status_cell.ensures words
          ∙ turned_same (state_in c.args.bytes.now words) c.args.q RESUMING h (status_row h c.args.q (omega arith)) (both_asleep _ RESUMING z (omega arith)) in
          rw (c.set_callback.ensures words (long_turned _ _ _ _ _ h turned), turned, c.ask.ensures, c.number-resume.ensures);
      stays = λ words. then_callback _ words _ _ _ _ _ _ (ap fixed (c.set_status_cell.ensures words)) c.set_callback.ensures;
    }
