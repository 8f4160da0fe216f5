-- The rules for one device and one link: lower numbers on a state, supply on values. Assumes nothing.
use Rattle.std.specs.Prelude.{Bool, ℕ, ◌%◌, get_or, eqb}
use Rattle.model.specs.Limits.{NONE}
use Rattle.model.specs.Logic.{◌or◌, ◌implies◌}
use Rattle.model.specs.Table.{parent_good, ends_good}
use Rattle.model.specs.State.{State, SUSPENDED, powered}

-- device p has no parent or one of a lower number
unfoldable pub parent_fits : State → ℕ → Bool
parent_fits s p = parent_good p (get_or s.wiring.parent p 0)

-- link i goes from one of n devices to one of a lower number
unfoldable pub ends_fit : ℕ → State → ℕ → Bool
ends_fit n s i = ends_good n (get_or s.wiring.consumer i 0) (get_or s.wiring.supplier i 0)

-- a device of this status rests on its parent, unless that is none or ignores its children, and the parent is powered
unfoldable pub child_rests : ℕ → ℕ → ℕ → ℕ → Bool
child_rests status parent ignore up = eqb status SUSPENDED or eqb parent NONE or (eqb ignore 0 implies powered up)

-- a consumer of this status rests on the supplier of a runtime link, and that is powered
unfoldable pub link_rests : ℕ → ℕ → ℕ → Bool
link_rests status flags up = eqb status SUSPENDED or (eqb (flags % 2) 1 implies powered up)
