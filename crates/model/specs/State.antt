-- "The state of a part": the state of the bench and of the plain keeper, the counts, and the state of a loaded table.
-- Assumes nothing.
use Rattle.std.specs.Prelude.{Bool, not, List, ℕ, ◌+◌, ◌%◌, get_or, set, replicate, ltb, leb, eqb}
use Rattle.model.specs.Limits.{LINKS, ROWS, NONE}
use Rattle.model.specs.Logic.{when◌then◌else◌, ◌and◌, tally, column}
use Rattle.model.specs.Table.{Wiring, TableAnswer, table_answer, padded, wiring_in}

-- ---- status
abbrev pub SUSPENDED : ℕ
SUSPENDED = 0

abbrev pub RESUMING : ℕ
RESUMING = 1

abbrev pub ACTIVE : ℕ
ACTIVE = 2

abbrev pub SUSPENDING : ℕ
SUSPENDING = 3

-- "powered": active or suspending; "sleeping": suspended or resuming
abbrev pub powered : ℕ → Bool
powered v = leb ACTIVE v

abbrev pub sleeping : ℕ → Bool
sleeping v = ltb v ACTIVE

-- ---- the state
-- the state of each device, a column for each field
pub record Devices : Type 0 where
  pub status : List ℕ
  -- "user holds"
  pub holds : List ℕ
  -- "disable depth"
  pub depth : List ℕ
  -- "error": the magnitude of the negative number, 0 for none
  pub error : List ℕ
  -- "child count": powered children, also where they are ignored
  pub children : List ℕ
  -- runtime links to it from powered consumers
  pub linked : List ℕ

-- the open callback: its kind as the reply that asks for it (1 suspend, 2 resume, 3 idle; 0 none is open), the device asked, and the
-- device that was requested ("target"); for suspend and idle the two are one, with none open all are 0
pub record Callback : Type 0 where
  pub kind : ℕ
  pub asked : ℕ
  pub target : ℕ

-- the carried bytes ("waiting" in the plain keeper): three rows, and how many are used
pub record Carry : Type 0 where
  pub bytes : List ℕ
  pub used : ℕ

pub record State : Type 0 where
  pub wiring : Wiring
  pub devices : Devices
  pub callback : Callback
  pub carry : Carry

-- ---- reading a state
abbrev pub status_at : State → ℕ → ℕ
status_at s p = get_or s.devices.status p 0

abbrev pub holds_at : State → ℕ → ℕ
holds_at s p = get_or s.devices.holds p 0

abbrev pub depth_at : State → ℕ → ℕ
depth_at s p = get_or s.devices.depth p 0

abbrev pub error_at : State → ℕ → ℕ
error_at s p = get_or s.devices.error p 0

abbrev pub children_at : State → ℕ → ℕ
children_at s p = get_or s.devices.children p 0

abbrev pub linked_at : State → ℕ → ℕ
linked_at s p = get_or s.devices.linked p 0

-- "use count": user holds plus runtime links to it from powered consumers
abbrev pub usage : State → ℕ → ℕ
usage s p = holds_at s p + linked_at s p

-- device p counts its children: it does not ignore them
abbrev pub counts_children : State → ℕ → Bool
counts_children s p = eqb (get_or s.wiring.ignore p 0) 0

-- ---- the counts, as recounts
-- device k is a powered child of its parent
unfoldable pub is_child : Wiring → List ℕ → ℕ → Bool
is_child w status k = powered (get_or status k 0) and not (eqb (get_or w.parent k 0) NONE)

-- link k is a runtime link (bit 0) of a powered consumer
unfoldable pub is_live : Wiring → List ℕ → ℕ → Bool
is_live w status k = powered (get_or status (get_or w.consumer k 0) 0) and eqb (get_or w.flags k 0 % 2) 1

-- "Child count: powered children, counted even where ignored", of device q
unfoldable pub child_count : Wiring → List ℕ → ℕ → ℕ
child_count w status q = tally (is_child w status) (λ k. get_or w.parent k 0) w.n q

-- "runtime links to it from a powered consumer", to device q
unfoldable pub link_count : Wiring → List ℕ → ℕ → ℕ
link_count w status q = tally (is_live w status) (λ k. get_or w.supplier k 0) w.m q

unfoldable pub children_of : Wiring → List ℕ → List ℕ
children_of w status = column (child_count w status) ROWS

unfoldable pub linked_of : Wiring → List ℕ → List ℕ
linked_of w status = column (link_count w status) ROWS

-- ---- changing a state: a setter for each group of fields that change together
abbrev with_devices : State → Devices → State
with_devices s d = record { wiring = s.wiring; devices = d; callback = s.callback; carry = s.carry }

abbrev pub with_holds : State → ℕ → ℕ → State
with_holds s p v = let d = s.devices in with_devices s (record { status = d.status; holds = set d.holds p v; depth = d.depth; error = d.error; children = d.children; linked = d.linked })

abbrev pub with_depth : State → ℕ → ℕ → State
with_depth s p v = let d = s.devices in with_devices s (record { status = d.status; holds = d.holds; depth = set d.depth p v; error = d.error; children = d.children; linked = d.linked })

abbrev pub with_error : State → ℕ → ℕ → State
with_error s p v = let d = s.devices in with_devices s (record { status = d.status; holds = d.holds; depth = d.depth; error = set d.error p v; children = d.children; linked = d.linked })

-- "Every change of powered status brings the parent's child count and the link counts into line"
abbrev pub with_status : State → ℕ → ℕ → State
with_status s p v =
    let d = s.devices in
    let z = set d.status p v in
    with_devices s (record { status = z; holds = d.holds; depth = d.depth; error = d.error; children = children_of s.wiring z; linked = linked_of s.wiring z })

abbrev pub with_ignore : State → ℕ → ℕ → State
with_ignore s p v =
    let w = s.wiring in
    record {
      wiring = record { n = w.n; m = w.m; parent = w.parent; ignore = set w.ignore p v; consumer = w.consumer; supplier = w.supplier; flags = w.flags };
      devices = s.devices;
      callback = s.callback;
      carry = s.carry;
    }

abbrev pub with_callback : State → ℕ → ℕ → ℕ → State
with_callback s kind asked target = record { wiring = s.wiring; devices = s.devices; callback = record { kind = kind; asked = asked; target = target }; carry = s.carry }

-- no callback open
abbrev pub closed : State → State
closed s = with_callback s 0 0 0

abbrev pub with_carry : State → List ℕ → ℕ → State
with_carry s bytes used = record { wiring = s.wiring; devices = s.devices; callback = s.callback; carry = record { bytes = bytes; used = used } }

-- ---- the state of a table just loaded, and the empty bench
-- "suspended .. no user holds, no powered children, error 0. No callback is open and no bytes are carried"
unfoldable pub at_rest : Wiring → List ℕ → State
at_rest w depth =
    record {
      wiring = w;
      devices = record { status = replicate ROWS SUSPENDED; holds = replicate ROWS 0; depth = depth; error = replicate ROWS 0; children = replicate ROWS 0; linked = replicate ROWS 0 };
      callback = record { kind = 0; asked = 0; target = 0 };
      carry = record { bytes = replicate 3 0; used = 0 };
    }

-- "A loaded part is suspended, with disable depth 1"
unfoldable pub loaded : Wiring → State
loaded w = at_rest w (padded (λ p. 1) w.n ROWS)

-- "The empty bench (n = 0, all else zero)"
unfoldable pub empty_state : State
empty_state =
    at_rest
    (record {
      n = 0;
      m = 0;
      parent = replicate ROWS 0;
      ignore = replicate ROWS 0;
      consumer = replicate LINKS 0;
      supplier = replicate LINKS 0;
      flags = replicate LINKS 0;
    })
    (replicate ROWS 0)

-- the answer to a table and what is left: the state just loaded, or where it is refused the empty bench
pub record Loaded : Type 0 where
  pub answer : TableAnswer
  pub state : State

unfoldable pub load_of : List ℕ → Loaded
load_of t = record { answer = table_answer t; state = when eqb (table_answer t).number 0 then loaded (wiring_in t) else empty_state }
