-- A state with the entries of a table stored into it. Assumes nothing.
use Rattle.std.specs.Prelude.{List, ℕ, zero, suc, set}
use Rattle.model.specs.Table.{device_byte, link_byte}
use Rattle.model.specs.State.{State}

-- a column with what f gives stored into its first k rows
unfoldable pub stored : (ℕ → ℕ) → ℕ → List ℕ → List ℕ
stored f zero col = col
stored f (suc k) col = set (stored f k col) k (f k)

-- the first k devices: parent, flags and disable depth 1
abbrev pub with_device_entries : List ℕ → ℕ → State → State
with_device_entries t k s =
    let w = s.wiring in
    let d = s.devices in
    record {
      wiring =
          record {
            n = w.n;
            m = w.m;
            parent = stored (device_byte t 0) k w.parent;
            ignore = stored (device_byte t 1) k w.ignore;
            consumer = w.consumer;
            supplier = w.supplier;
            flags = w.flags;
          };
      devices = record { status = d.status; holds = d.holds; depth = stored (λ p. 1) k d.depth; error = d.error; children = d.children; linked = d.linked };
      callback = s.callback;
      carry = s.carry;
    }

-- the first k links: consumer, supplier and flags
abbrev pub with_link_entries : List ℕ → ℕ → State → State
with_link_entries t k s =
    let w = s.wiring in
    record {
      wiring =
          record {
            n = w.n;
            m = w.m;
            parent = w.parent;
            ignore = w.ignore;
            consumer = stored (link_byte t 0) k w.consumer;
            supplier = stored (link_byte t 1) k w.supplier;
            flags = stored (link_byte t 2) k w.flags;
          };
      devices = s.devices;
      callback = s.callback;
      carry = s.carry;
    }
