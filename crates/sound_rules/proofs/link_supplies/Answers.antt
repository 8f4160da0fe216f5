-- `sound_rules::link_supplies` meets its contract. Assumes nothing.
use Rattle.sound_rules.proofs.Reading.{link_rests_at}
use Rattle.sound_rules.proofs.link_supplies.Goals as goal

pub returns : goal.returns
returns c =
    record {
      is =
          λ words.
          link_rests_at _ _ _ (c.consumer-c.ensures words) (c.supplier-s.ensures words) (c.status.ensures words)
          (c.flags.ensures words) (c.status-2.ensures words) c.link_rests.ensures;
    }
