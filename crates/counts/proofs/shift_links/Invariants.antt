-- The invariant: from the first link of p to i, the links are passed, each by a law of `Turning`. An index that leads past the links is none
-- of a sound bench: nothing is done. Assumes nothing.
use mathlib.Core.Path.{◌≡◌}
use Prim.Native.Nat.{◌+◌, ◌≤◌, ◌-◌}
use Rattle.memory.specs.Layout.{state_in}
use Rattle.counts.specs.Shifts.{shift_links}
use Rattle.counts.proofs.shift_links.Given as goal

abbrev pub invariant-loop-i : goal.invariant-loop-i
invariant-loop-i l =
    (l.i ≤ l.begin + (l.end - l.begin)) × (state_in l.bytes l.words ≡ shift_links (state_in l.bytes l.initial.words) l.up l.begin (l.i - l.begin))
