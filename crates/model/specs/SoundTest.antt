-- When a bench is sound, as a test that runs. `proofs/SoundTest.antt` has that the test and the facts of `Sound.antt` agree.
-- Assumes nothing.
use Rattle.std.specs.Prelude.{Bool, false, not, List, ℕ, ◌+◌, ◌-◌, ◌%◌, get_or, ltb, leb, eqb}
use Rattle.model.specs.Limits.{DEVICES, LINKS, ROWS, NONE, MAXHOLDS, MAXDEPTH, MAXERROR}
use Rattle.model.specs.Logic.{when◌then◌else◌, ◌and◌, ◌or◌, ◌implies◌, all}
use Rattle.model.specs.Table.{Wiring, parent_good, ends_good, before}
use Rattle.model.specs.State.{State, Devices, Carry, SUSPENDED, RESUMING, ACTIVE, SUSPENDING, powered, status_at, children_of, linked_of}
use Rattle.model.specs.WakeSet.{in_wake, lowest}
use Rattle.model.specs.Requests.{suspend_test, barred}

unfoldable pub column_test : ℕ → ℕ → ℕ → List ℕ → Bool
column_test rows n most col = all (λ p. when ltb p n then leb (get_or col p 0) most else eqb (get_or col p 0) 0) rows

unfoldable pub table_test : Wiring → Bool
table_test w =
    leb 1 w.n
    and leb w.n DEVICES
    and leb w.m LINKS
    and column_test ROWS w.n 255 w.parent
    and column_test ROWS w.n 1 w.ignore
    and column_test LINKS w.m 255 w.consumer
    and column_test LINKS w.m 255 w.supplier
    and column_test LINKS w.m 3 w.flags
    and all (λ p. parent_good p (get_or w.parent p 0)) w.n
    and all (λ i. ends_good w.n (get_or w.consumer i 0) (get_or w.supplier i 0)) w.m
    and all (λ i. before (get_or w.consumer i 0) (get_or w.supplier i 0) (get_or w.consumer (i + 1) 0) (get_or w.supplier (i + 1) 0)) (w.m - 1)

-- two columns are the same
unfoldable pub same_test : List ℕ → List ℕ → Bool
same_test a b = all (λ p. eqb (get_or a p 0) (get_or b p 0)) ROWS

-- device p is suspended, or its parent that counts its children is powered
unfoldable pub parent_supplies : Wiring → List ℕ → ℕ → Bool
parent_supplies w status p =
    eqb (get_or status p 0) SUSPENDED
    or eqb (get_or w.parent p 0) NONE
    or (eqb (get_or w.ignore (get_or w.parent p 0) 0) 0 implies powered (get_or status (get_or w.parent p 0) 0))

-- the consumer of link i is suspended, or the supplier is powered if the link is a runtime one
unfoldable pub link_supplies : Wiring → List ℕ → ℕ → Bool
link_supplies w status i =
    eqb (get_or status (get_or w.consumer i 0) 0) SUSPENDED
    or (eqb (get_or w.flags i 0 % 2) 1 implies powered (get_or status (get_or w.supplier i 0) 0))

unfoldable pub supply_test : Wiring → List ℕ → Bool
supply_test w status = all (parent_supplies w status) w.n and all (link_supplies w status) w.m

unfoldable pub kept_test : Wiring → Devices → Bool
kept_test w d =
    table_test w
    and column_test ROWS w.n SUSPENDING d.status
    and column_test ROWS w.n MAXHOLDS d.holds
    and column_test ROWS w.n MAXDEPTH d.depth
    and column_test ROWS w.n MAXERROR d.error
    and same_test d.children (children_of w d.status)
    and same_test d.linked (linked_of w d.status)
    and supply_test w d.status

unfoldable pub carried_test : Carry → Bool
carried_test c = leb c.used 3 and all (λ i. leb c.used i implies eqb (get_or c.bytes i 0) 0) 3

unfoldable pub steady_test : State → ℕ → Bool
steady_test s p = not (eqb (status_at s p) RESUMING) and not (eqb (status_at s p) SUSPENDING)

-- no device is in change; none but p is
unfoldable pub all_steady : State → Bool
all_steady s = all (steady_test s) s.wiring.n

unfoldable pub others_steady : State → ℕ → Bool
others_steady s p = all (λ q. eqb q p or steady_test s q) s.wiring.n

-- no member of t's wake set has an error or a disable depth above 0
unfoldable pub members_clear : State → ℕ → Bool
members_clear s t = all (λ q. in_wake s t q implies not (barred s q)) s.wiring.n

unfoldable pub none_test : State → Bool
none_test s = eqb s.callback.asked 0 and eqb s.callback.target 0 and all_steady s

unfoldable pub suspend_open_test : State → ℕ → Bool
suspend_open_test s p = ltb p s.wiring.n and eqb s.callback.target p and eqb (status_at s p) SUSPENDING and others_steady s p and eqb (suspend_test s p) 0

unfoldable pub resume_open_test : State → ℕ → ℕ → Bool
resume_open_test s p t = ltb t s.wiring.n and eqb (lowest s t) p and eqb (status_at s p) RESUMING and others_steady s p and members_clear s t

unfoldable pub idle_open_test : State → ℕ → Bool
idle_open_test s p = ltb p s.wiring.n and eqb s.callback.target p and eqb (status_at s p) ACTIVE and all_steady s and eqb (suspend_test s p) 0

unfoldable pub callback_test : State → Bool
callback_test s =
    when eqb s.callback.kind 0 then none_test s
    else when eqb s.callback.kind 1 then suspend_open_test s s.callback.asked
    else when eqb s.callback.kind 2 then resume_open_test s s.callback.asked s.callback.target
    else when eqb s.callback.kind 3 then idle_open_test s s.callback.asked
    else false

unfoldable pub sound_test : State → Bool
sound_test s = kept_test s.wiring s.devices and carried_test s.carry and callback_test s
