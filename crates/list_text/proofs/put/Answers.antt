-- `list_text::put` meets its contract: a store past the end changes nothing. Assumes nothing.
use mathlib.Core.Path.{sym}
use lib.Seq.{set_out}
use Rattle.list_text.proofs.put.Goals as goal

-- no room
pub returns-else-at-out : goal.returns-else-at-out
returns-else-at-out c = let given = c.args in sym (set_out given.out.now given.at given.byte c.if-at-out.false)
