-- `test_words::place` meets its contract. Assumes nothing.
use mathlib.Core.Path.{◌≡◌, sym, ◌∙◌}
use mathlib.Core.Bool.{true, false}
use lib.Pointwise.{bytes_decides}
use native.Mathlib.Omega.{arith}
use borrow.Author.Count.{below_more}
use Rattle.test_words.specs.Words.{NAMES}
use Rattle.test_words.proofs.place.Goals as goal

pub loop-j-init : goal.loop-j-init
loop-j-init c = λ k h. absurd (omega arith)

pub returns-then-eq : goal.returns-then-eq
returns-then-eq c = record { is = record { first = c.loop-j.invariant; here = λ h. sym c.word.ensures ∙ (bytes_decides _ _).0 (sym c.if-eq.ensures); most = omega arith }; below = omega arith }

pub loop-j-preserved : goal.loop-j-preserved
loop-j-preserved c = below_more _ _ c.loop-j.invariant (λ e. let z : true ≡ false = sym ((bytes_decides _ _).1 (c.word.ensures ∙ e)) ∙ sym c.if-eq.ensures in absurd (cc))

pub returns : goal.returns
returns c = let e : c.loop-j.j ≡ NAMES = omega arith in record { is = record { first = rw e at c.loop-j.invariant; here = λ h. absurd (omega arith); most = omega arith }; below = tt }
