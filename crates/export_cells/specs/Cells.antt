-- The cells of a state by the number of a field and a row. Fields 0 to 10 are the columns: those of the devices that have bytes, those of the
-- links, those of the devices that have words. Field 11 has the numbers of the whole bench. Assumes nothing.
use Rattle.std.specs.Prelude.{List, [], ◌∷◌, ℕ, ◌-◌, ◌<◌, ◌≤◌, ◌%◌, length, get_or, set}
use Rattle.model.specs.State.{State, with_holds, with_depth, with_error, with_ignore, with_callback, with_carry}
use Rattle.memory.specs.Layout.{BYTES, WORDS, Becomes}
use Rattle.memory.specs.Cells.{with_status_cell, with_children, with_linked, with_count, with_links, with_parent, with_consumer, with_supplier, with_flags}

-- the numbers: the carried bytes stand last
unfoldable pub numbers_of : State → List ℕ
numbers_of s =
    s.wiring.n ∷ s.wiring.m ∷ s.callback.kind ∷ s.callback.asked ∷ s.callback.target ∷ s.carry.used ∷ s.carry.bytes

-- the fields
unfoldable pub fields_of : State → List (List ℕ)
fields_of s =
    s.wiring.parent ∷ s.wiring.ignore ∷ s.devices.status ∷ s.devices.depth ∷ s.devices.children
    ∷ s.wiring.consumer ∷ s.wiring.supplier ∷ s.wiring.flags
    ∷ s.devices.holds ∷ s.devices.error ∷ s.devices.linked
    ∷ numbers_of s ∷ []

-- a cell; 0 where there is none
unfoldable pub cell_of : State → ℕ → ℕ → ℕ
cell_of s field row = get_or (get_or (fields_of s) field []) row 0

-- the states with the first numbers set to v in turn; a byte takes the low byte of v
unfoldable pub numbers_set : ℕ → State → List State
numbers_set v s =
    let b = v % 256 in
    with_count s b ∷ with_links s v
    ∷ with_callback s b s.callback.asked s.callback.target
    ∷ with_callback s s.callback.kind b s.callback.target
    ∷ with_callback s s.callback.kind s.callback.asked b
    ∷ with_carry s s.carry.bytes b ∷ []

-- number i set to v; beyond the first they are the carried bytes
unfoldable pub with_number : ℕ → ℕ → State → State
with_number i v s = get_or (numbers_set v s) i (with_carry s (set s.carry.bytes (i - 6) (v % 256)) s.carry.used)

-- the states with v in a row of each field in turn
unfoldable pub cells_set : ℕ → ℕ → State → List State
cells_set row v s =
    let b = v % 256 in
    with_parent s row b ∷ with_ignore s row b ∷ with_status_cell s row b ∷ with_depth s row b ∷ with_children s row b
    ∷ with_consumer s row b ∷ with_supplier s row b ∷ with_flags s row b
    ∷ with_holds s row v ∷ with_error s row v ∷ with_linked s row v
    ∷ with_number row v s ∷ []

-- a cell set to v; the state itself where there is none
unfoldable pub with_cell : ℕ → ℕ → ℕ → State → State
with_cell field row v s = get_or (cells_set row v s) field s

-- the state of the memory after, where the arrays have all their cells
pub record NumberSet (i v : ℕ) (bytes₀ words₀ bytes words : List ℕ) : Type 0 where
  pub is : BYTES ≤ length bytes₀ → WORDS ≤ length words₀ → Becomes (with_number i v) bytes₀ words₀ bytes words

-- the same of a cell; for a column always
pub record CellSet (field row v : ℕ) (bytes₀ words₀ bytes words : List ℕ) : Type 0 where
  pub column : field < 11 → Becomes (with_cell field row v) bytes₀ words₀ bytes words
  pub is : BYTES ≤ length bytes₀ → WORDS ≤ length words₀ → Becomes (with_cell field row v) bytes₀ words₀ bytes words
