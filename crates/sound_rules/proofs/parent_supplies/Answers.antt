-- `sound_rules::parent_supplies` meets its contract. Assumes nothing.
use Rattle.sound_rules.proofs.Reading.{rests_at}
use Rattle.sound_rules.proofs.parent_supplies.Goals as goal

pub returns : goal.returns
returns c =
    record {
      is =
          λ words.
          rests_at _ _ _ (c.status.ensures words) (c.parent-q.ensures words) (c.ignore.ensures words) (c.status-2.ensures words)
          c.child_rests.ensures;
    }
