-- `test_words::number` meets its contract: with a minus, and without. Assumes nothing.
use mathlib.Core.Path.{sym, ◌∙◌}
use Rattle.test_words.proofs.Reading.{signed, unsigned}
use Rattle.test_words.proofs.number.Goals as goal

-- a minus stands first
pub returns-in-Some : goal.returns-in-Some
returns-in-Some c =
    let e = c.in-Some.ensures.cases in
    rw (signed c.args.s.now e.0, ← e.1, ← c.digits.ensures) c.minus.ensures

-- none does
pub returns-in-None : goal.returns-in-None
returns-in-None c = c.digits-in-None.ensures ∙ sym (unsigned c.args.s.now c.in-None.ensures.cases)
