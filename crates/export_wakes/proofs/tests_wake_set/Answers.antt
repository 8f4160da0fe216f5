-- `export_wakes::tests_wake_set` meets its contract. Assumes nothing.
use Rattle.export_wakes.proofs.Indexing.{wake_set_is}
use Rattle.export_wakes.proofs.tests_wake_set.Goals as goal

pub returns : goal.returns
returns c = wake_set_is c.index-first.ensures.is c.wake_set.ensures
