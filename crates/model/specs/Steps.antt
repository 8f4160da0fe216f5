-- "Records and their replies", callback results and whole records, and the plain keeper of "Demand 3 in exact words".
-- Assumes nothing.
use Rattle.std.specs.Prelude.{Bool, not, List, [], ◌∷◌, ◌++◌, ℕ, ◌+◌, get_or, set, replicate, ltb, eqb}
use Rattle.model.specs.Limits.{EAGAIN, EBUSY, EINPROGRESS, minus}
use Rattle.model.specs.Logic.{when◌then◌else◌, ◌and◌, ◌or◌}
use Rattle.model.specs.State.{State, SUSPENDED, ACTIVE, with_error, with_status, with_carry, closed}
use Rattle.model.specs.WakeSet.{lowest}
use Rattle.model.specs.Records.{Rec, Reply, Done, RESULT, record_of, reply_bytes, finished, refused, kind_of, fault}
use Rattle.model.specs.Requests.{enable, disable, get, get_wake, put, put_idle, idle, ask_suspend, suspend, ask_resume, wake, set_active, set_suspended, ignore_children}

-- ---- kind 13: the result v of the open callback of the device p asked
-- idle: 0 goes on to suspending; any other value finishes the request, and no error is kept (all house)
unfoldable pub idle_result : State → ℕ → ℕ → Done
idle_result s p v =
    when eqb v 0 then ask_suspend (closed s) p
    else finished (closed s) p v

-- suspend: 0 gives suspended; any other value active (house), kept as the error unless it is -11 or -16
unfoldable pub suspend_result : State → ℕ → ℕ → Done
suspend_result s p v =
    when eqb v 0 then finished (closed (with_status s p SUSPENDED)) p 0
    else when eqb v (minus EAGAIN) or eqb v (minus EBUSY) then finished (closed (with_status s p ACTIVE)) p v
    else finished (with_error (closed (with_status s p ACTIVE)) p (minus v)) p v

-- the members of t's wake set that remain are asked in turn; then the wake of t is finished
unfoldable pub go_on : State → ℕ → Done
go_on s t =
    when ltb (lowest s t) s.wiring.n then ask_resume s t
    else finished s t 0

-- resume, for the wake of t: 0 gives active and goes on; any other value gives suspended, is kept as that device's error, and ends the wake: with the value
-- where it was the target, else with -16. Members woken before stay active
unfoldable pub resume_result : State → ℕ → ℕ → ℕ → Done
resume_result s p t v =
    when eqb v 0 then go_on (closed (with_status s p ACTIVE)) t
    else finished (with_error (closed (with_status s p SUSPENDED)) p (minus v)) t (when eqb p t then v else minus EBUSY)

-- by the kind of the open callback
unfoldable pub result : State → ℕ → ℕ → Done
result s p v =
    when eqb s.callback.kind 1 then suspend_result s p v
    else when eqb s.callback.kind 2 then resume_result s p s.callback.target v
    else idle_result s p v

-- ---- a whole record
-- kinds 1 to 12
unfoldable pub request : State → ℕ → ℕ → ℕ → Done
request s kind p v =
    when eqb kind 1 then enable s p
    else when eqb kind 2 then disable s p
    else when eqb kind 3 then get s p
    else when eqb kind 4 then get_wake s p
    else when eqb kind 5 then put s p
    else when eqb kind 6 then put_idle s p
    else when eqb kind 7 then idle s p
    else when eqb kind 8 then suspend s p
    else when eqb kind 9 then wake s p
    else when eqb kind 10 then set_active s p
    else when eqb kind 11 then set_suspended s p
    else ignore_children s p v

-- kind 13 for device p: "A callback result counts only when a callback is open, and only for the part asked", else 14 or 15
unfoldable pub result_step : State → ℕ → ℕ → Done
result_step s p v =
    when eqb s.callback.kind 0 then refused s p 14
    else when not (eqb p s.callback.asked) then refused s p 15
    else result s p v

-- a callback is open, and the kind is not answered meanwhile
unfoldable pub busy : State → ℕ → Bool
busy s kind = not (eqb s.callback.kind 0) and not (kind_of kind).always

-- one record: refused with 11 to 13; or a result; or -115 (house), and nothing changes; or the request
unfoldable pub record_step : State → Rec → Done
record_step s r =
    when ltb 0 (fault s.wiring.n r) then refused s r.device (fault s.wiring.n r)
    else when eqb r.kind RESULT then result_step s r.device r.value
    else when busy s r.kind then finished s r.device (minus EINPROGRESS)
    else request s r.kind r.device r.value

-- ---- the plain keeper
-- a record and the reply to it
pub record Exchange : Type 0 where
  pub asked : Rec
  pub reply : Reply

-- what bytes lead to: a state, and the records they completed with their replies, in order
pub record Run : Type 0 where
  pub state : State
  pub log : List Exchange

-- the record that a fourth byte completes; then none wait
abbrev pub fourth : State → ℕ → Rec
fourth s b = record_of (get_or s.carry.bytes 0 0) (get_or s.carry.bytes 1 0) (get_or s.carry.bytes 2 0) b

abbrev pub none_wait : State → State
none_wait s = with_carry s (replicate 3 0) 0

-- a byte that is not the fourth only waits
unfoldable pub byte_step : State → ℕ → Run
byte_step s b =
    when ltb s.carry.used 3 then record { state = with_carry s (set s.carry.bytes s.carry.used b) (s.carry.used + 1); log = [] }
    else record { state = (record_step (none_wait s) (fourth s b)).state; log = record { asked = fourth s b; reply = (record_step (none_wait s) (fourth s b)).reply } ∷ [] }

-- single bytes, one after another
unfoldable pub run : State → List ℕ → Run
run s [] = record { state = s; log = [] }
run s (b ∷ bs) = let f = byte_step s b in let g = run f.state bs in record { state = g.state; log = f.log ++ g.log }

-- the bytes of the replies, in order
unfoldable pub replies_in : List Exchange → List ℕ
replies_in [] = []
replies_in (e ∷ es) = reply_bytes e.reply ++ replies_in es
