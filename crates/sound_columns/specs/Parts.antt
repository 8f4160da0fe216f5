-- The parts of the soundness test that have functions of their own, but for the open callback and the carried bytes. Assumes nothing.
use Rattle.std.specs.Prelude.{Bool, ℕ, ◌+◌, ◌-◌, get_or}
use Rattle.model.specs.Limits.{LINKS, ROWS, MAXHOLDS, MAXDEPTH, MAXERROR}
use Rattle.model.specs.Logic.{◌and◌, all}
use Rattle.model.specs.Table.{Wiring, parent_good, ends_good, before}
use Rattle.model.specs.State.{State, Devices, SUSPENDING, children_of, linked_of}
use Rattle.model.specs.SoundTest.{column_test, same_test, supply_test, kept_test}

-- link i comes before the next
unfoldable pub ascends_in : Wiring → ℕ → Bool
ascends_in w i = before (get_or w.consumer i 0) (get_or w.supplier i 0) (get_or w.consumer (i + 1) 0) (get_or w.supplier (i + 1) 0)

-- ---- the ends of the model's two long tests
unfoldable pub wiring_test : Wiring → Bool
wiring_test w =
    column_test ROWS w.n 255 w.parent
    and column_test ROWS w.n 1 w.ignore
    and column_test LINKS w.m 255 w.consumer
    and column_test LINKS w.m 255 w.supplier
    and column_test LINKS w.m 3 w.flags
    and all (λ p. parent_good p (get_or w.parent p 0)) w.n
    and all (λ i. ends_good w.n (get_or w.consumer i 0) (get_or w.supplier i 0)) w.m
    and all (ascends_in w) (w.m - 1)

unfoldable pub devices_test : Wiring → Devices → Bool
devices_test w d =
    column_test ROWS w.n SUSPENDING d.status
    and column_test ROWS w.n MAXHOLDS d.holds
    and column_test ROWS w.n MAXDEPTH d.depth
    and column_test ROWS w.n MAXERROR d.error
    and same_test d.children (children_of w d.status)
    and same_test d.linked (linked_of w d.status)
    and supply_test w d.status

-- the whole
abbrev pub kept : State → Bool
kept s = kept_test s.wiring s.devices
