-- `request_wake::go_on` meets its contract: the lowest member, or n, is the model's, and whether it is below n decides. Assumes nothing.
use mathlib.Core.Path.{refl, ◌∙◌}
use borrow.Author.Tests.{lt-ltb, le-ltb}
use Rattle.links.proofs.Order.{listed}
use Rattle.request_wake.proofs.Changes.{lowest_asleep, lowest_or, goes_done, goes_asks}
use Rattle.request_wake.proofs.go_on.Goals as goal

-- none remains
pub returns-then-devices-low : goal.returns-then-devices-low
returns-then-devices-low c =
    let words = c.args.words.now in
    record {
      is =
          λ h l.
          let low = (lowest_or c.lowest_member.result c.devices.ensures c.lowest_member.ensures c.unwrap_or-low.ensures).is words (listed h) l in
          rw c.finished.ensures (goes_done _ _ low (le-ltb _ _ (rw (c.devices-2.ensures words) at c.if-devices-low.true)));
      stays = λ f. refl;
    }

-- the lowest is asked
pub returns : goal.returns
returns c =
    let words = c.args.words.now in
    record {
      is =
          λ h l.
          let low = (lowest_or c.lowest_member.result c.devices.ensures c.lowest_member.ensures c.unwrap_or-low.ensures).is words (listed h) l in
          goes_asks _ _ low (lt-ltb _ _ (rw (c.devices-2.ensures words) at c.if-devices-low.false))
          ∙ c.ask_resume.ensures.is _ h.ready (rw low (lowest_asleep h.ready _ l));
      stays = c.ask_resume.ensures.stays words;
    }
