-- What a device rests on, as the code tests it. Assumes nothing.
use Rattle.std.specs.Prelude.{Bool, ℕ, ◌%◌, get_or, ltb, eqb}
use Rattle.model.specs.Logic.{◌and◌}
use Rattle.model.specs.Table.{Wiring}
use Rattle.model.specs.State.{State, sleeping, status_at}

-- p's parent is lower and counts its children
unfoldable pub on_parent : Wiring → ℕ → Bool
on_parent w p = ltb (get_or w.parent p 0) p and eqb (get_or w.ignore (get_or w.parent p 0) 0) 0

-- link i is a runtime link to a device lower than p
unfoldable pub on_supplier : Wiring → ℕ → ℕ → Bool
on_supplier w p i = ltb (get_or w.supplier i 0) p and eqb (get_or w.flags i 0 % 2) 1

-- the same, and the parent or the supplier sleeps
unfoldable pub sleeping_parent : State → ℕ → Bool
sleeping_parent s p = on_parent s.wiring p and sleeping (status_at s (get_or s.wiring.parent p 0))

unfoldable pub sleeping_supplier : State → ℕ → ℕ → Bool
sleeping_supplier s p i = on_supplier s.wiring p i and sleeping (status_at s (get_or s.wiring.supplier i 0))
