-- `test_words::digits` meets its contract. The invariant: the digits that are left give, after the number so far, what all of them give. Assumes nothing.
use mathlib.Core.Path.{◌≡◌}
use Prim.Native.Nat.{◌≤◌}
use lib.ListN.{drop}
use Rattle.test_words.specs.Numbers.{WRONG, value_after}
use Rattle.test_words.proofs.digits.Given as goal

abbrev pub invariant-loop-b : goal.invariant-loop-b
invariant-loop-b l = (l.v ≤ WRONG) × (value_after l.v (drop l.b-index l.s) ≡ value_after 0 l.s)
