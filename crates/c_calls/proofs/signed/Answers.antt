-- `c_calls::signed` meets its contract: a number that is not 0 is a refusal's. Assumes nothing.
use mathlib.Core.Path.{sym, ◌∙◌}
use mir.Syntax.{w32}
use mir.Facts.{to_z-of_z}
use Rattle.c_calls.proofs.Answers.{answered_refused, answered_given}
use Rattle.c_calls.proofs.signed.Goals as goal

-- refused
pub returns-then-number-ne0 : goal.returns-then-number-ne0
returns-then-number-ne0 c = to_z-of_z {w = w32} (record { sfits = c.refused.type_inv }) ∙ c.refused.ensures ∙ sym (answered_refused _ _ c.if-number-ne0.true)

-- answered
pub returns : goal.returns
returns c = to_z-of_z {w = w32} (record { sfits = c.given.type_inv }) ∙ c.given.ensures ∙ sym (answered_given _ _ c.if-number-ne0.false)
