-- `replay_text::size::read`: the bytes that are left give, after the value so far, what the whole text gives. Assumes nothing.
use mathlib.Core.Path.{◌≡◌}
use Prim.Native.Nat.{◌≤◌}
use lib.ListN.{drop}
use Rattle.replay_text.specs.Sizes.{size_after, size_of}
use Rattle.replay_text.proofs.size.read.Given as goal

abbrev pub invariant-loop-b : goal.invariant-loop-b
invariant-loop-b l = (l.value ≤ 4096) × (size_after l.value (drop l.b-index l.text) ≡ size_of l.text)
