-- `test_words::place` meets its contract. The invariant: the text is none of the names passed. Assumes nothing.
use mathlib.Core.Path.{◌≡◌}
use Prim.Native.Nat.{ℕ, ◌<◌}
use Rattle.test_words.specs.Words.{word_in}
use Rattle.test_words.proofs.place.Given as goal

abbrev pub invariant-loop-j : goal.invariant-loop-j
invariant-loop-j l = (k : ℕ) → k < l.j → word_in 32 l.names k ≡ l.text → ⊥
