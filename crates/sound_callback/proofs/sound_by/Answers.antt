-- The columns are tested first; only where they pass is the index looked at, which is then right. Assumes nothing.
use mathlib.Core.Path.{refl}
use Rattle.model.specs.SoundTest.{sound_test}
use Rattle.model.proofs.Basics.{never}
use Rattle.model.proofs.SoundTest.{kept_ordered}
use Rattle.model.proofs.Chains.{and_stop, and_go, passed, failed}
use Rattle.sound_callback.proofs.sound_by.Goals as goal

-- the columns fail
pub returns-then-not-well_kept : goal.returns-then-not-well_kept
unfolding sound_test
returns-then-not-well_kept c = record { is = λ i. and_stop _ (failed c.well_kept.ensures c.if-not-well_kept.true-raw); columns = λ e. never e refl }

-- the carried bytes and the open callback
pub returns : goal.returns
unfolding sound_test
returns c =
    let words = c.args.words.now in
    let e = passed c.well_kept.ensures c.if-not-well_kept.false-raw in
    record {
      is =
          λ i.
          let first = i.is (kept_ordered _ _ e).links in
          and_go e (rw (c.carried_good.ensures.is words, c.callback_good.ensures.is e first));
      columns = λ t. e;
    }
