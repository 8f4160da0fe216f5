-- `export_wakes::tests_lowest` meets its contract. Assumes nothing.
use Rattle.wakeset.proofs.Members.{finds_lowest}
use Rattle.export_wakes.proofs.Indexing.{lowest_is}
use Rattle.export_wakes.proofs.tests_lowest.Goals as goal

pub returns : goal.returns
returns c = rw c.unwrap_or.ensures (lowest_is c.index-first.ensures.is (finds_lowest c.lowest_member.result c.devices.ensures c.lowest_member.ensures))
