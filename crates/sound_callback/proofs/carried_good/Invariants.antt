-- The invariant: `good` is the test of the bytes passed. Assumes nothing.
use mathlib.Core.Path.{◌≡◌}
use mathlib.Core.List.{List}
use Prim.Native.Nat.{ℕ}
use Rattle.model.specs.Logic.{all}
use Rattle.memory.specs.Layout.{state_in}
use Rattle.sound_callback.specs.Parts.{spare_test}
use Rattle.sound_callback.proofs.carried_good.Given as goal

abbrev pub invariant-loop-i : goal.invariant-loop-i
invariant-loop-i l = (words : List ℕ) → l.good ≡ all (spare_test (state_in l.bytes words).carry) l.i
