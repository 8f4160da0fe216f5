-- `keeper_questions::about_both` meets its contract. Assumes nothing.
use Rattle.keeper_questions.proofs.Telling.{both_below}
use Rattle.keeper_questions.proofs.about_both.Goals as goal

pub returns : goal.returns
returns c =
    rw (both_below c.args.p c.args.q c.devices-n.result, c.devices-n.ensures c.args.b.words) at c.checked.ensures
