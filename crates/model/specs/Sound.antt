-- When a bench is sound (the paragraph after "What the keeper turns away"), as facts. Assumes nothing.
use Rattle.std.specs.Prelude.{◌≡◌, List, true, ℕ, ◌<◌, ◌≤◌, ◌+◌, ◌-◌, get_or, length}
use Rattle.model.specs.Limits.{DEVICES, LINKS, ROWS, NONE, MAXHOLDS, MAXDEPTH, MAXERROR}
use Rattle.model.specs.Table.{Wiring, before}
use Rattle.model.specs.State.{State, Devices, Callback, Carry, RESUMING, ACTIVE, SUSPENDING, status_at, error_at, depth_at, children_of, linked_of}
use Rattle.model.specs.WakeSet.{Needs, InWake, Lowest}
use Rattle.model.specs.Requests.{suspend_test}

-- a column of so many rows: the first n hold 0 to the most, the unused ones 0
pub record Column (rows n most : ℕ) (col : List ℕ) : Type 0 where
  pub long : length col ≡ rows
  pub used : (p : ℕ) → p < n → get_or col p 0 ≤ most
  pub unused : (p : ℕ) → n ≤ p → get_or col p 0 ≡ 0

-- what a device rests on has a lower number, and links ascend: as much of the rules as the wake set and the search for links need
pub record Ordered (w : Wiring) : Type 0 where
  pub devices : w.n ≤ DEVICES
  pub links : w.m ≤ LINKS
  pub parents : (p : ℕ) → p < w.n → (get_or w.parent p 0 ≡ NONE → ⊥) → get_or w.parent p 0 < p
  pub consumers : (i : ℕ) → i < w.m → get_or w.consumer i 0 < w.n
  pub suppliers : (i : ℕ) → i < w.m → get_or w.supplier i 0 < get_or w.consumer i 0
  pub ascending : (i : ℕ) → i < w.m - 1 → before (get_or w.consumer i 0) (get_or w.supplier i 0) (get_or w.consumer (i + 1) 0) (get_or w.supplier (i + 1) 0) ≡ true

-- "its table parts keep the rules above and unused rows are zero"
pub record TableRules (w : Wiring) : Type 0 where
  pub some : 1 ≤ w.n
  pub order : Ordered w
  pub parent_rows : Column ROWS w.n 255 w.parent
  pub ignore_rows : Column ROWS w.n 1 w.ignore
  pub consumer_rows : Column LINKS w.m 255 w.consumer
  pub supplier_rows : Column LINKS w.m 255 w.supplier
  pub flag_rows : Column LINKS w.m 3 w.flags

-- "supply rule": whatever a device that is awake, waking or going to sleep rests on is powered
pub record Supply (w : Wiring) (status : List ℕ) : Type 0 where
  pub rests : (p q : ℕ) → RESUMING ≤ get_or status p 0 → Needs w p q → ACTIVE ≤ get_or status q 0

-- the fields lie in range, the counts equal a recount, the supply rule holds
pub record Kept (w : Wiring) (d : Devices) : Type 0 where
  pub table : TableRules w
  pub statuses : Column ROWS w.n SUSPENDING d.status
  pub holds : Column ROWS w.n MAXHOLDS d.holds
  pub depths : Column ROWS w.n MAXDEPTH d.depth
  pub errors : Column ROWS w.n MAXERROR d.error
  pub children : d.children ≡ children_of w d.status
  pub linked : d.linked ≡ linked_of w d.status
  pub supply : Supply w d.status

-- "0 to 3 bytes are carried, unused ones zero"
pub record Carried (c : Carry) : Type 0 where
  pub few : c.used ≤ 3
  pub long : length c.bytes ≡ 3
  pub unused : (i : ℕ) → c.used ≤ i → get_or c.bytes i 0 ≡ 0

-- not in change: neither resuming nor suspending
abbrev pub Steady : ℕ → Type 0
Steady v = (v ≡ RESUMING → ⊥) × (v ≡ SUSPENDING → ⊥)

-- no device but p is in change
abbrev pub OthersSteady : State → ℕ → Type 0
OthersSteady s p = (q : ℕ) → (q ≡ p → ⊥) → Steady (status_at s q)

pub record NoneOpen (c : Callback) (status : List ℕ) : Type 0 where
  pub kind : c.kind ≡ 0
  pub asked : c.asked ≡ 0
  pub target : c.target ≡ 0
  pub steady : (q : ℕ) → Steady (get_or status q 0)

pub record SuspendOpen (s : State) : Type 0 where
  pub kind : s.callback.kind ≡ 1
  pub asked : s.callback.asked < s.wiring.n
  pub target : s.callback.target ≡ s.callback.asked
  pub status : status_at s s.callback.asked ≡ SUSPENDING
  pub steady : OthersSteady s s.callback.asked
  pub passes : suspend_test s s.callback.asked ≡ 0

pub record ResumeOpen (s : State) : Type 0 where
  pub kind : s.callback.kind ≡ 2
  pub target : s.callback.target < s.wiring.n
  pub status : status_at s s.callback.asked ≡ RESUMING
  pub steady : OthersSteady s s.callback.asked
  pub asked : Lowest s.wiring s.devices.status s.callback.target s.callback.asked
  pub clear : (q : ℕ) → InWake s.wiring s.devices.status s.callback.target q → (error_at s q ≡ 0) × (depth_at s q ≡ 0)

pub record IdleOpen (s : State) : Type 0 where
  pub kind : s.callback.kind ≡ 3
  pub asked : s.callback.asked < s.wiring.n
  pub target : s.callback.target ≡ s.callback.asked
  pub status : status_at s s.callback.asked ≡ ACTIVE
  pub steady : (q : ℕ) → Steady (status_at s q)
  pub passes : suspend_test s s.callback.asked ≡ 0

-- one of the four
pub data CallbackRules (s : State) : Type 0 where
  none_open : NoneOpen s.callback s.devices.status → CallbackRules s
  suspend_open : SuspendOpen s → CallbackRules s
  resume_open : ResumeOpen s → CallbackRules s
  idle_open : IdleOpen s → CallbackRules s

-- "sound"
pub record Sound (s : State) : Type 0 where
  pub kept : Kept s.wiring s.devices
  pub carried : Carried s.carry
  pub callback : CallbackRules s
