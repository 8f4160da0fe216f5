-- `list_text::line_of` meets its contract. The invariant: among the lines that are left, counted on, the entry has those ahead of it that are
-- still to be passed. Assumes nothing.
use mathlib.Core.Bool.{true, false}
use mathlib.Core.Path.{◌≡◌, sym, ◌∙◌}
use native.Mathlib.Omega.{arith}
use Rattle.list_text.specs.Texts.{is_of}
use Rattle.list_text.proofs.Numbering.{looking_start, looking_on, looking_past, looking_here, looking_none}
use Rattle.list_text.proofs.line_of.Goals as goal

-- the entry
pub returns-then-ahead-eq0 : goal.returns-then-ahead-eq0
returns-then-ahead-eq0 c =
    looking_here c.loop-start.invariant c.line_at-line.ensures (sym c.is_of.ensures ∙ c.if-is_of.true) c.if-ahead-eq0.true

-- an entry ahead of it, or a line with none of the sort
pub loop-start-preserved : goal.loop-start-preserved
loop-start-preserved c =
    let inv = c.loop-start.invariant in
    let past = λ (t : is_of c.args.link c.line_at-line.result.entry ≡ true) (z : c.loop-start.ahead ≡ 0 → ⊥). looking_past inv c.line_at-line.ensures t z in
    let on = λ (t : is_of c.args.link c.line_at-line.result.entry ≡ false). looking_on inv c.line_at-line.ensures t in
    grind (arith, past, on)

-- the end of the text
pub returns : goal.returns
returns c = looking_none c.loop-start.invariant c.loop-start-test.false

pub loop-start-init : goal.loop-start-init
loop-start-init c = looking_start _ _ _

pub line_at-line-requires : goal.line_at-line-requires
line_at-line-requires c = c.loop-start-test.true

pub overflow_sub-ahead : goal.overflow_sub-ahead
overflow_sub-ahead c = omega arith

pub overflow_add-number : goal.overflow_add-number
overflow_add-number c = omega arith

pub loop-start-smaller : goal.loop-start-smaller
loop-start-smaller c = omega arith
