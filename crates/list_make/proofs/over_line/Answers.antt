-- `list_make::over_line` meets its contract. Assumes nothing.
use Rattle.model.specs.Limits.{DEVICES, LINKS}
use Rattle.list_make.proofs.Telling.{over_link, over_device}
use Rattle.list_make.proofs.over_line.Goals as goal

-- no device is past the limit
pub returns-then-line-eq0 : goal.returns-then-line-eq0
unfolding DEVICES LINKS
returns-then-line-eq0 c =
    over_link _ (rw c.from.ensures at c.line_of-line.ensures) c.if-line-eq0.true c.line_of.ensures

-- one is
pub returns : goal.returns
unfolding DEVICES
returns c = over_device _ (rw c.from.ensures at c.line_of-line.ensures) c.if-line-eq0.false
