-- `replay_text::size::number`: the bytes that are left give, after the value so far, what the whole text gives. Assumes nothing.
use mathlib.Core.Path.{◌≡◌}
use Prim.Native.Nat.{◌≤◌}
use lib.ListN.{drop}
use Rattle.replay_text.specs.Sizes.{number_after, number_of}
use Rattle.replay_text.proofs.size.number.Given as goal

abbrev pub invariant-loop-b : goal.invariant-loop-b
invariant-loop-b l = (l.value ≤ l.most) × (number_after l.most l.value (drop l.b-index l.text) ≡ number_of l.most l.text)
