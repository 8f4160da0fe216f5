-- What the parts on values tell of the model's tests. Assumes nothing.
use mathlib.Core.Path.{◌≡◌}
use mathlib.Core.Bool.{not}
use mathlib.Core.List.{List}
use Prim.Native.Nat.{ℕ, ◌≤◌, ◌%◌}
use native.Mathlib.Omega.{arith}
use lib.ListN.{get_or}
use lib.Dec.{eqb}
use Rattle.model.specs.Limits.{NONE}
use Rattle.model.specs.Logic.{◌and◌, bit}
use Rattle.model.specs.Table.{Wiring}
use Rattle.model.specs.State.{powered, is_child, is_live}
use Rattle.model.proofs.Tallies.{bit_low}
use Rattle.sound_rows.specs.Parts.{child_bit, live_bit}

-- where a loop to n has ended
pub last : (k n m : ℕ) → k ≤ n → n ≤ k → m ≡ n → k ≡ m
last k n m a b e = omega arith

-- ---- one device, one link
pub child_low : (parent status : ℕ) → child_bit parent status ≤ 1
unfolding child_bit
child_low parent status = bit_low (powered status and not (eqb parent NONE))

pub live_low : (status flags : ℕ) → live_bit status flags ≤ 1
unfolding live_bit
live_low status flags = bit_low (powered status and eqb (flags % 2) 1)

pub child_adds : {pa st v : ℕ} (w : Wiring) (status : List ℕ) (k : ℕ)
    → pa ≡ get_or w.parent k 0 → st ≡ get_or status k 0 → v ≡ child_bit pa st → v ≡ bit (is_child w status k)
unfolding child_bit is_child
child_adds w status k a b e = rw (e, a, b)

pub live_adds : {co st fl v : ℕ} (w : Wiring) (status : List ℕ) (k : ℕ)
    → co ≡ get_or w.consumer k 0 → st ≡ get_or status co 0 → fl ≡ get_or w.flags k 0 → v ≡ live_bit st fl → v ≡ bit (is_live w status k)
unfolding live_bit is_live
live_adds w status k a b c e = rw (e, b, a, c)
