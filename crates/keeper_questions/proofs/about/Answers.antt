-- `keeper_questions::about` meets its contract. Assumes nothing.
use Rattle.keeper_questions.proofs.Telling.{below}
use Rattle.keeper_questions.proofs.about.Goals as goal

pub returns : goal.returns
returns c = rw (below c.args.p c.devices.result, c.devices.ensures c.args.b.words) at c.checked.ensures
