-- `test_words::scan` meets its contract. The invariant: the scan from the place reached stops where the whole scan does. Assumes nothing.
use mathlib.Core.Path.{◌≡◌}
use Prim.Native.Nat.{◌+◌}
use lib.ListN.{drop}
use Rattle.test_words.specs.Words.{before}
use Rattle.test_words.proofs.scan.Given as goal

abbrev pub invariant-loop-i : goal.invariant-loop-i
invariant-loop-i l = l.i + before l.byte l.same (drop l.i l.s) ≡ l.from + before l.byte l.same (drop l.from l.s)
