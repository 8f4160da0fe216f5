-- "Records and their replies": the requests, kinds 1 to 12, in the table's order, after what several of them share. Each is finished with
-- 0 where nothing else is said; "house" marks a rule that is document 01's own, "request Three" one that document 02 has changed. Assumes
-- nothing.
use Rattle.std.specs.Prelude.{Bool, not, ℕ, ◌+◌, ◌-◌, ◌%◌, get_or, ltb, leb, eqb}
use Rattle.model.specs.Limits.{NONE, MAXHOLDS, MAXDEPTH, EAGAIN, EACCES, EBUSY, EINVAL, EOVERFLOW, minus}
use Rattle.model.specs.Logic.{when◌then◌else◌, ◌and◌, ◌or◌, any}
use Rattle.model.specs.State.{State, SUSPENDED, RESUMING, ACTIVE, SUSPENDING, status_at, holds_at, depth_at, error_at, children_at, linked_at, usage, counts_children, with_holds, with_depth, with_error, with_status, with_ignore, with_callback}
use Rattle.model.specs.WakeSet.{in_wake, lowest}
use Rattle.model.specs.Records.{Done, finished, ask}

-- ---- what several kinds share
-- "The suspend test": its code, 0 where it is passed. An error: -22. Disabled: -13 (request Three). In use by a holder or by a powered
-- consumer: -11. Powered children that count: -16
unfoldable pub suspend_test : State → ℕ → ℕ
suspend_test s p =
    when ltb 0 (error_at s p) then minus EINVAL
    else when ltb 0 (depth_at s p) then minus EACCES
    else when ltb 0 (usage s p) then minus EAGAIN
    else when ltb 0 (children_at s p) and counts_children s p then minus EBUSY
    else 0

-- the device turns suspending, and its suspend callback is asked for
unfoldable pub ask_suspend : State → ℕ → Done
ask_suspend s p = ask (with_callback (with_status s p SUSPENDING) 1 p p) 1 p

-- the lowest-numbered member of t's wake set turns resuming, and its resume callback is asked for
unfoldable pub ask_resume : State → ℕ → Done
ask_resume s t = ask (with_callback (with_status s (lowest s t) RESUMING) 2 (lowest s t) t) 2 (lowest s t)

-- q has an error or a disable depth above 0
unfoldable pub barred : State → ℕ → Bool
barred s q = ltb 0 (error_at s q) or ltb 0 (depth_at s q)

-- a member of p's wake set other than p is barred
unfoldable pub others_barred : State → ℕ → Bool
others_barred s p = any (λ q. in_wake s p q and not (eqb q p) and barred s q) s.wiring.n

-- depth 0 and no error: the status cannot be set by hand
unfoldable pub running : State → ℕ → Bool
running s p = eqb (depth_at s p) 0 and eqb (error_at s p) 0

-- p's parent, where it has one, counts its children and is not active
unfoldable pub parent_down : State → ℕ → Bool
parent_down s p = let q = get_or s.wiring.parent p 0 in not (eqb q NONE) and counts_children s q and not (eqb (status_at s q) ACTIVE)

-- a runtime supplier of p is not active
unfoldable pub supplier_down : State → ℕ → Bool
supplier_down s p =
    let w = s.wiring in
    any (λ i. eqb (get_or w.consumer i 0) p and eqb (get_or w.flags i 0 % 2) 1 and not (eqb (status_at s (get_or w.supplier i 0)) ACTIVE)) w.m

-- powered children that are not ignored, or runtime links from powered consumers
unfoldable pub needed : State → ℕ → Bool
needed s p = (ltb 0 (children_at s p) and counts_children s p) or ltb 0 (linked_at s p)

-- ---- kinds 7 and 9 stand before the others, since kinds 6 and 4 go on as they do
-- kind 7, idle: the suspend test's code; not active: -11; else the idle callback is asked for
unfoldable pub idle : State → ℕ → Done
idle s p =
    when ltb 0 (suspend_test s p) then finished s p (suspend_test s p)
    else when not (eqb (status_at s p) ACTIVE) then finished s p (minus EAGAIN)
    else ask (with_callback s 3 p p) 3 p

-- kind 9, wake: an error: -22; disabled: -13 (request Three); active already: 1; another member of the wake set that is barred: -16
-- (house); else the lowest member is asked to resume
unfoldable pub wake : State → ℕ → Done
wake s p =
    when ltb 0 (error_at s p) then finished s p (minus EINVAL)
    else when ltb 0 (depth_at s p) then finished s p (minus EACCES)
    else when eqb (status_at s p) ACTIVE then finished s p 1
    else when others_barred s p then finished s p (minus EBUSY)
    else ask_resume s p

-- ---- the requests
-- kind 1, enable: the depth falls by 1; at 0: -75 (house)
unfoldable pub enable : State → ℕ → Done
enable s p =
    when eqb (depth_at s p) 0 then finished s p (minus EOVERFLOW)
    else finished (with_depth s p (depth_at s p - 1)) p 0

-- kind 2, disable: the depth rises by 1; at 255: -75 (house)
unfoldable pub disable : State → ℕ → Done
disable s p =
    when eqb (depth_at s p) MAXDEPTH then finished s p (minus EOVERFLOW)
    else finished (with_depth s p (depth_at s p + 1)) p 0

-- kind 3, get: the user holds rise by 1; at 32,767 (or past it, which no sound bench is): -75 (house)
unfoldable pub get : State → ℕ → Done
get s p =
    when leb MAXHOLDS (holds_at s p) then finished s p (minus EOVERFLOW)
    else finished (with_holds s p (holds_at s p + 1)) p 0

-- kind 4, get and wake: as 3, and unless that was -75 then as 9; the hold stays, whatever the wake is answered
unfoldable pub get_wake : State → ℕ → Done
get_wake s p =
    when leb MAXHOLDS (holds_at s p) then finished s p (minus EOVERFLOW)
    else wake (with_holds s p (holds_at s p + 1)) p

-- kind 5, put: the user holds fall by 1; at 0: -75 (house)
unfoldable pub put : State → ℕ → Done
put s p =
    when eqb (holds_at s p) 0 then finished s p (minus EOVERFLOW)
    else finished (with_holds s p (holds_at s p - 1)) p 0

-- what follows the put of kind 6 (request Three): in use still, by a holder or by a powered consumer: finished with 0, a disabled or
-- failed device too; else as 7
unfoldable pub idle_unused : State → ℕ → Done
idle_unused s p =
    when ltb 0 (usage s p) then finished s p 0
    else idle s p

-- kind 6, put and idle: as 5, and unless that was -75 an idle of the device if it is now unused
unfoldable pub put_idle : State → ℕ → Done
put_idle s p =
    when eqb (holds_at s p) 0 then finished s p (minus EOVERFLOW)
    else idle_unused (with_holds s p (holds_at s p - 1)) p

-- kind 8, suspend: the suspend test's code; suspended already: 1; else it turns suspending and is asked
unfoldable pub suspend : State → ℕ → Done
suspend s p =
    when ltb 0 (suspend_test s p) then finished s p (suspend_test s p)
    else when eqb (status_at s p) SUSPENDED then finished s p 1
    else ask_suspend s p

-- kind 10, set active: while it runs: -11; a parent that counts children, or a runtime supplier (house), not active: -16; else active,
-- and the error is forgotten
unfoldable pub set_active : State → ℕ → Done
set_active s p =
    when running s p then finished s p (minus EAGAIN)
    else when parent_down s p or supplier_down s p then finished s p (minus EBUSY)
    else finished (with_error (with_status s p ACTIVE) p 0) p 0

-- kind 11, set suspended: while it runs: -11; needed by a powered child that counts or by a powered consumer: -16 (house); else
-- suspended, and the error is forgotten
unfoldable pub set_suspended : State → ℕ → Done
set_suspended s p =
    when running s p then finished s p (minus EAGAIN)
    else when needed s p then finished s p (minus EBUSY)
    else finished (with_error (with_status s p SUSPENDED) p 0) p 0

-- kind 12, ignore children: turned off while the device is not active and has powered children: -16 (house); else set
unfoldable pub ignore_children : State → ℕ → ℕ → Done
ignore_children s p v =
    when eqb v 0 and not (eqb (status_at s p) ACTIVE) and ltb 0 (children_at s p) then finished s p (minus EBUSY)
    else finished (with_ignore s p v) p 0
