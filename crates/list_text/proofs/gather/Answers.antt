-- `list_text::gather` meets its contract. The invariant: the bytes of the lines that are left, stored after those of the lines passed, make what
-- is asked for. They are few enough to be counted, since a line with three bytes has two places of the text at least. Assumes nothing.
use native.Mathlib.Omega.{arith}
use Rattle.list_text.proofs.Gathering.{gathering_start, gathering_more, gathering_end}
use Rattle.list_text.proofs.gather.Goals as goal

-- one line more
pub loop-start-preserved : goal.loop-start-preserved
loop-start-preserved c =
    gathering_more c.loop-start.invariant c.line_at-line.ensures c.put_entry-at.ensures

-- the end of the text
pub returns : goal.returns
returns c = gathering_end c.loop-start.invariant c.loop-start-test.false

pub loop-start-init : goal.loop-start-init
loop-start-init c = gathering_start _ _ _

pub line_at-line-requires : goal.line_at-line-requires
line_at-line-requires c = c.loop-start-test.true

pub put_entry-at-requires : goal.put_entry-at-requires
put_entry-at-requires c = omega arith

pub loop-start-smaller : goal.loop-start-smaller
loop-start-smaller c = omega arith

pub shape_of-out : goal.shape_of-out
shape_of-out c = c.loop-start.invariant.long
