-- `keeper_questions::user_holds` meets its contract. Assumes nothing.
use Rattle.keeper_questions.proofs.Telling.{refused, answered}
use Rattle.keeper_questions.proofs.user_holds.Goals as goal

pub returns-in-Err-Unsound : goal.returns-in-Err-Unsound
returns-in-Err-Unsound c = refused (rw (c.in-Err-Unsound.is, c.in-Err-Unsound.field-0-is) at c.about.ensures) _

pub returns-in-Err-Unknown : goal.returns-in-Err-Unknown
returns-in-Err-Unknown c = refused (rw (c.in-Err-Unknown.is, c.in-Err-Unknown.field-0-is) at c.about.ensures) _

pub returns-in-Ok : goal.returns-in-Ok
returns-in-Ok c = answered c.in-Ok.ensures (c.holds.ensures c.args.b.bytes)
