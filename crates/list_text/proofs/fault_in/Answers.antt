-- `list_text::fault_in` meets its contract. The invariant: the lines that are left, counted on, have the fault that all lines have.
-- Assumes nothing.
use native.Mathlib.Omega.{arith}
use Rattle.list_text.proofs.Numbering.{faulting_start, faulting_more, faulting_here, faulting_none}
use Rattle.list_text.proofs.fault_in.Goals as goal

-- a faulty line
pub returns-in-Err : goal.returns-in-Err
returns-in-Err c = faulting_here c.loop-start.invariant c.line_at-line.ensures c.in-Err.is

-- a line of a list
pub loop-start-preserved : goal.loop-start-preserved
loop-start-preserved c = faulting_more c.loop-start.invariant c.line_at-line.ensures c.in_default.is

-- the end of the text
pub returns : goal.returns
returns c = faulting_none c.loop-start.invariant c.loop-start-test.false

pub loop-start-init : goal.loop-start-init
loop-start-init c = faulting_start _

pub line_at-line-requires : goal.line_at-line-requires
line_at-line-requires c = c.loop-start-test.true

pub overflow_add-number : goal.overflow_add-number
overflow_add-number c = omega arith

pub loop-start-smaller : goal.loop-start-smaller
loop-start-smaller c = omega arith
