-- A state with one cell changed, and nothing brought into line. Assumes nothing.
use Rattle.std.specs.Prelude.{ℕ, List, set}
use Rattle.model.specs.Table.{Wiring}
use Rattle.model.specs.State.{State, Devices}

-- ---- the devices
abbrev on : State → Devices → State
on s d = record { wiring = s.wiring; devices = d; callback = s.callback; carry = s.carry }

abbrev pub with_status_cell : State → ℕ → ℕ → State
with_status_cell s p v = let d = s.devices in on s (record { status = set d.status p v; holds = d.holds; depth = d.depth; error = d.error; children = d.children; linked = d.linked })

abbrev pub with_children : State → ℕ → ℕ → State
with_children s p v = let d = s.devices in on s (record { status = d.status; holds = d.holds; depth = d.depth; error = d.error; children = set d.children p v; linked = d.linked })

-- with another column of link counts, and with one of them changed
abbrev pub with_linked_column : State → List ℕ → State
with_linked_column s col = let d = s.devices in on s (record { status = d.status; holds = d.holds; depth = d.depth; error = d.error; children = d.children; linked = col })

abbrev pub with_linked : State → ℕ → ℕ → State
with_linked s p v = with_linked_column s (set s.devices.linked p v)

-- ---- the wiring
abbrev wired : State → Wiring → State
wired s w = record { wiring = w; devices = s.devices; callback = s.callback; carry = s.carry }

-- the device count and the link count
abbrev pub with_count : State → ℕ → State
with_count s n = let w = s.wiring in wired s (record { n = n; m = w.m; parent = w.parent; ignore = w.ignore; consumer = w.consumer; supplier = w.supplier; flags = w.flags })

abbrev pub with_links : State → ℕ → State
with_links s m = let w = s.wiring in wired s (record { n = w.n; m = m; parent = w.parent; ignore = w.ignore; consumer = w.consumer; supplier = w.supplier; flags = w.flags })

-- a device's parent
abbrev pub with_parent : State → ℕ → ℕ → State
with_parent s p v = let w = s.wiring in wired s (record { n = w.n; m = w.m; parent = set w.parent p v; ignore = w.ignore; consumer = w.consumer; supplier = w.supplier; flags = w.flags })

-- the ends and the flags of link i
abbrev pub with_consumer : State → ℕ → ℕ → State
with_consumer s i v = let w = s.wiring in wired s (record { n = w.n; m = w.m; parent = w.parent; ignore = w.ignore; consumer = set w.consumer i v; supplier = w.supplier; flags = w.flags })

abbrev pub with_supplier : State → ℕ → ℕ → State
with_supplier s i v = let w = s.wiring in wired s (record { n = w.n; m = w.m; parent = w.parent; ignore = w.ignore; consumer = w.consumer; supplier = set w.supplier i v; flags = w.flags })

abbrev pub with_flags : State → ℕ → ℕ → State
with_flags s i v = let w = s.wiring in wired s (record { n = w.n; m = w.m; parent = w.parent; ignore = w.ignore; consumer = w.consumer; supplier = w.supplier; flags = set w.flags i v })
