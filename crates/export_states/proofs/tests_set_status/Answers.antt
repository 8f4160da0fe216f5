-- `export_states::tests_set_status` meets its contract. Assumes nothing.
use Rattle.export_states.proofs.Indexing.{status_set}
use Rattle.export_states.proofs.tests_set_status.Goals as goal

pub returns : goal.returns
returns c = status_set c.index-first.ensures.is c.set_status.ensures
