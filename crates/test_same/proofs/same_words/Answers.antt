-- `test_same::same_words` meets its contract. The invariant: the words passed are equal. Assumes nothing.
use mathlib.Core.Path.{refl, ap}
use native.Mathlib.Omega.{arith}
use Rattle.std.proofs.lemmas.Grind.{common_steps}
use lib.ListN.{length}
use lib.Seq.{ext_get_or}
use borrow.Author.Count.{below_more}
use borrow.Author.Rules.{rules}
use Rattle.test_same.proofs.same_words.Goals as goal

-- the lengths differ
pub returns-then-a-b : goal.returns-then-a-b
returns-then-a-b c = record { equal = λ z. absurd (search rules); found = λ e. absurd (c.if-a-b.true (ap length e)) }

pub loop-k-init : goal.loop-k-init
loop-k-init c = λ j l. absurd (omega arith)

-- a word differs
pub returns-then-a-k : goal.returns-then-a-k
returns-then-a-k c = record { equal = λ z. absurd (search rules); found = λ e. absurd (c.if-a-k.true (rw e)) }

pub loop-k-preserved : goal.loop-k-preserved
loop-k-preserved c = below_more _ _ c.loop-k.invariant (grind (arith, common_steps))

-- every word is equal
pub returns : goal.returns
returns c = record { equal = λ z. ext_get_or 0 _ _ c.if-a-b.false (λ j l. c.loop-k.invariant j (omega arith)); found = λ e. refl }
