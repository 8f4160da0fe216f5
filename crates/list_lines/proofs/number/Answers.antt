-- `list_lines::number` meets its contract. Assumes nothing.
use Rattle.std.proofs.Common.{◌≡◌, ◌<◌, sym, ◌∙◌, rules, arith}
use Rattle.list_lines.proofs.Reading.{number_read, number_none, fit_none, fit_low, fit_high}
use Rattle.list_lines.proofs.number.Goals as goal

-- no byte
pub returns-then-is_empty : goal.returns-then-is_empty
returns-then-is_empty c = number_none _ _ c.is_empty.ensures c.if-is_empty.true

-- a byte is no digit
pub returns-in_default : goal.returns-in_default
returns-in_default c = fit_none (sym c.number.ensures ∙ c.in_default.is) ∙ number_read (omega arith) _ _ c.is_empty.ensures c.if-is_empty.false

-- a number over 255
pub returns-in_default-try_from : goal.returns-in_default-try_from
returns-in_default-try_from c =
    let e = c.in_default-try_from.ensures in
    let h : 255 < c.in-Some.value = search rules in
    fit_high c.in-Some.value (sym c.number.ensures ∙ c.in-Some.is) h ∙ number_read (omega arith) _ _ c.is_empty.ensures c.if-is_empty.false

-- a number
pub returns : goal.returns
returns c =
    let e = c.in-Ok.ensures in
    let h : c.in-Some.value < 256 = search rules in
    let v : c.in-Ok.value ≡ c.in-Some.value = search rules in
    rw v (fit_low c.in-Some.value (sym c.number.ensures ∙ c.in-Some.is) h ∙ number_read (omega arith) _ _ c.is_empty.ensures c.if-is_empty.false)
