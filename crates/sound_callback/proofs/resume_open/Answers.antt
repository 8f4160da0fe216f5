-- Each exit is a test of the chain that fails; the last has the lowest member resuming, so the target is a member. Assumes nothing.
use mathlib.Core.Path.{sym, ◌∙◌, ap}
use borrow.Author.Tests.{eq-eqb, ne_eqb, lt-ltb, le-ltb}
use Rattle.model.specs.WakeSet.{lowest}
use Rattle.model.specs.SoundTest.{resume_open_test}
use Rattle.model.proofs.Chains.{and_stop, and_go}
use Rattle.memory.specs.Layout.{state_in}
use Rattle.sound_callback.proofs.Opening.{listed_in, resume_last}
use Rattle.sound_callback.proofs.resume_open.Goals as goal

-- the target is no device
pub returns-then-devices-t : goal.returns-then-devices-t
unfolding resume_open_test
returns-then-devices-t c =
    let w = c.args.words.now in
    record { is = λ k i. and_stop _ (le-ltb _ _ (rw (c.devices.ensures w, c.target-t.ensures w) at c.if-devices-t.true)) }

-- another is the lowest
pub returns-then-found-p : goal.returns-then-found-p
unfolding resume_open_test
returns-then-found-p c =
    let w = c.args.words.now in
    let m = rw (c.devices.ensures w) at c.if-devices-t.false in
    let l = rw (c.target-t.ensures w) at m in
    record {
      is =
          λ k i.
          let low = c.reached-found.ensures.low.is w (listed_in ((state_in c.args.bytes.now c.args.words.now)) k i) m ∙ ap (lowest ((state_in c.args.bytes.now c.args.words.now))) (c.target-t.ensures w) in
          and_go (lt-ltb _ _ l) (and_stop _ (ne_eqb _ _ (λ z. c.if-found-p.true (low ∙ z ∙ sym (c.asked-p.ensures w)))));
    }

-- the lowest is not resuming
pub returns-then-status-ne-RESUMING : goal.returns-then-status-ne-RESUMING
unfolding resume_open_test
returns-then-status-ne-RESUMING c =
    let w = c.args.words.now in
    let m = rw (c.devices.ensures w) at c.if-devices-t.false in
    let l = rw (c.target-t.ensures w) at m in
    record {
      is =
          λ k i.
          let low = c.reached-found.ensures.low.is w (listed_in ((state_in c.args.bytes.now c.args.words.now)) k i) m ∙ ap (lowest ((state_in c.args.bytes.now c.args.words.now))) (c.target-t.ensures w) in
          and_go (lt-ltb _ _ l)
          (and_go (eq-eqb _ _ (sym low ∙ c.if-found-p.false ∙ c.asked-p.ensures w)) (and_stop _ (ne_eqb _ _ (rw (c.status.ensures w, c.asked-p.ensures w) at c.if-status-ne-RESUMING.true))));
    }

-- the others, and whether a member is barred
pub returns : goal.returns
returns c =
    let w = c.args.words.now in
    let m = rw (c.devices.ensures w) at c.if-devices-t.false in
    let l = rw (c.target-t.ensures w) at m in
    record {
      is =
          λ k i.
          let h = listed_in ((state_in c.args.bytes.now c.args.words.now)) k i in
          let low = c.reached-found.ensures.low.is w h m ∙ ap (lowest ((state_in c.args.bytes.now c.args.words.now))) (c.target-t.ensures w) in
          resume_last ((state_in c.args.bytes.now c.args.words.now)) _ k l (sym low ∙ c.if-found-p.false ∙ c.asked-p.ensures w) (rw (c.status.ensures w, c.asked-p.ensures w) at c.if-status-ne-RESUMING.false)
          (rw (c.asked-p.ensures w) at (c.others_steady.ensures.is w)) (rw (c.target-t.ensures w) at c.bars.ensures)
          (rw (c.target-t.ensures w) at (c.reached-found.ensures.barred h m));
    }
