-- `export_states::tests_step` meets its contract. Assumes nothing.
use Rattle.export_states.proofs.Indexing.{step_is}
use Rattle.export_states.proofs.tests_step.Goals as goal

pub returns : goal.returns
returns c =
    step_is c.step-reply.result c.index-first.ensures.is c.step-reply.ensures c.pack.ensures
