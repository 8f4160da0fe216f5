-- The invariant: `good` is the test of the devices passed. Assumes nothing.
use mathlib.Core.Path.{◌≡◌}
use mathlib.Core.List.{List}
use Prim.Native.Nat.{ℕ}
use lib.Dec.{eqb}
use Rattle.std.specs.Prelude.{Some}
use Rattle.std.specs.Option.{option_eq}
use Rattle.model.specs.Logic.{◌or◌, all}
use Rattle.memory.specs.Layout.{state_in}
use Rattle.model.specs.SoundTest.{steady_test}
use Rattle.sound_callback.proofs.others_steady.Given as goal

abbrev pub invariant-loop-q : goal.invariant-loop-q
invariant-loop-q l = (words : List ℕ) → l.good ≡ all (λ q. option_eq eqb (Some q) l.left or steady_test (state_in l.bytes words) q) l.q
