-- The parts of the soundness test that are on the values of one device or link. Assumes nothing.
use Rattle.std.specs.Prelude.{not, ℕ, ◌%◌, eqb}
use Rattle.model.specs.Limits.{NONE}
use Rattle.model.specs.Logic.{◌and◌, bit}
use Rattle.model.specs.State.{powered}

-- what a device adds to a child count, and a link to a link count
unfoldable pub child_bit : ℕ → ℕ → ℕ
child_bit parent status = bit (powered status and not (eqb parent NONE))

unfoldable pub live_bit : ℕ → ℕ → ℕ
live_bit status flags = bit (powered status and eqb (flags % 2) 1)
