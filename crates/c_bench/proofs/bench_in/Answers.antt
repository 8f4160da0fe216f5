-- `c_bench::bench_in` meets its contract: too few bytes begin with no saved state, else what was read is judged as restoring judges it.
-- Assumes nothing.
use mathlib.Core.Path.{sym, ap, ◌∙◌}
use Rattle.model.specs.Limits.{ROWS, LINKS}
use Rattle.model.specs.State.{State}
use Rattle.memory.specs.Layout.{BYTES, WORDS}
use Rattle.saved_form.specs.Form.{FORM}
use Rattle.saved_form.specs.Restoring.{Restored, judged_of}
use Rattle.saved_read.proofs.Judging.{judged_empty, refused_judged, restore_read}
use Rattle.c_calls.specs.Bytes.{bench_in}
use Rattle.c_calls.proofs.Beginning.{bench_in_lem, bench_short}
use Rattle.c_bench.proofs.bench_in.Goals as goal

-- too few bytes
pub returns-then-state-lt-FORM : goal.returns-then-state-lt-FORM
unfolding FORM BYTES WORDS ROWS LINKS
returns-then-state-lt-FORM c =
    let short = bench_short c.args.state.now c.if-state-lt-FORM.true in
    record { judged = ap (λ (s : State). (judged_of s).state) c.empty.ensures ∙ judged_empty ∙ sym short }

-- read
pub returns-in-Ok : goal.returns-in-Ok
unfolding FORM BYTES WORDS ROWS LINKS bench_in
returns-in-Ok c =
    record { judged = ap (λ (r : Restored). r.state) (restore_read _ c.in-Ok.cells c.in-Ok.ensures) ∙ sym (bench_in_lem c.args.state.now) }

-- refused
pub returns-in-Err : goal.returns-in-Err
unfolding FORM BYTES WORDS ROWS LINKS bench_in
returns-in-Err c =
    record {
      judged =
          ap (λ (s : State). (judged_of s).state) c.empty-in-Err.ensures
          ∙ refused_judged _ c.in-Err.field-0 c.in-Err.ensures
          ∙ sym (bench_in_lem c.args.state.now);
    }
