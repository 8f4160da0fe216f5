-- The parent first, then the links. The invariant: the suppliers of the links passed are marked where p rests on them and they sleep.
-- Assumes nothing.
use mathlib.Core.Path.{◌≡◌}
use mathlib.Core.List.{List}
use Prim.Native.Nat.{ℕ, ◌+◌, ◌-◌, ◌≤◌}
use lib.ListN.{length}
use Rattle.model.specs.Limits.{ROWS}
use Rattle.memory.specs.Layout.{state_in}
use Rattle.wakeset.specs.Sweep.{AmongLinks, Adds}
use Rattle.wakeset.proofs.pass.Given as goal

abbrev pub invariant-loop-i : goal.invariant-loop-i
invariant-loop-i l =
    (l.i ≤ l.begin + (l.end - l.begin)) × ((words : List ℕ) → length l.initial.marks ≡ ROWS → Adds (AmongLinks (state_in l.bytes words) l.p l.begin l.i) l.initial.marks l.initial.least l.marks l.least)
