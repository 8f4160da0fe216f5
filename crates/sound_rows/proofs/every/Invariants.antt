-- `sound_rows::every` meets its contract. The invariant: `good` is the test of the numbers passed. Assumes nothing.
use mathlib.Core.Path.{◌≡◌}
use mathlib.Core.Bool.{Bool}
use Prim.Native.Nat.{ℕ, ◌<◌}
use Rattle.model.specs.Logic.{all}
use Rattle.sound_rows.proofs.every.Given as goal

abbrev pub invariant-loop-k : goal.invariant-loop-k
invariant-loop-k g l = (test : ℕ → Bool) → ((k : ℕ) → (r : Bool) → k < l.n → goal.F-post g l.passes k r → r ≡ test k) → l.good ≡ all test l.k
