-- `test_words::bytes_in` meets its contract. The invariant: no byte is stored where word k is past the last one. Assumes nothing.
use mathlib.Core.Path.{◌≡◌}
use Prim.Native.Nat.{◌≤◌}
use Rattle.test_words.specs.Words.{WORDS}
use Rattle.test_words.proofs.bytes_in.Given as goal

abbrev pub invariant-loop-j : goal.invariant-loop-j
invariant-loop-j l = (l.k ≤ l.j) × (WORDS ≤ l.k → l.at ≡ 0)
