-- "The part table", and numbers 1 to 7 of "What the keeper turns away". Assumes nothing.
use Rattle.std.specs.Prelude.{Bool, not, List, ℕ, ◌+◌, ◌*◌, ◌-◌, length, get_or, ltb, leb, eqb}
use Rattle.model.specs.Limits.{DEVICES, LINKS, ROWS, NONE}
use Rattle.model.specs.Logic.{when◌then◌else◌, ◌and◌, ◌or◌, first, column}

-- what a table says: how the devices ("parts") hang together
pub record Wiring : Type 0 where
  -- how many devices, and how many links
  pub n : ℕ
  pub m : ℕ
  -- for each device its parent, and 1 where it ignores its children
  pub parent : List ℕ
  pub ignore : List ℕ
  -- for each link its consumer, supplier and flags
  pub consumer : List ℕ
  pub supplier : List ℕ
  pub flags : List ℕ

-- a wiring from its columns, as contracts over lent columns name it
abbrev pub wired : ℕ → ℕ → List ℕ → List ℕ → List ℕ → List ℕ → List ℕ → Wiring
wired n m parent ignore consumer supplier flags = record { n = n; m = m; parent = parent; ignore = ignore; consumer = consumer; supplier = supplier; flags = flags }

-- ---- where things stand
abbrev pub byte_at : List ℕ → ℕ → ℕ
byte_at t i = get_or t i 0

abbrev pub devices_in : List ℕ → ℕ
devices_in t = byte_at t 5

abbrev pub links_in : List ℕ → ℕ
links_in t = byte_at t 6

-- "n entries of two bytes": field 0 of device p is its parent, 1 its flags
abbrev pub device_byte : List ℕ → ℕ → ℕ → ℕ
device_byte t field p = byte_at t (7 + 2 * p + field)

-- "m entries of three bytes": field 0 of link i is its consumer, 1 its supplier, 2 its flags
abbrev pub link_byte : List ℕ → ℕ → ℕ → ℕ
link_byte t field i = byte_at t (7 + 2 * devices_in t + 3 * i + field)

-- ---- the tests
-- 2: "Bytes 0 to 2 "TWB""
unfoldable pub mark_good : List ℕ → Bool
mark_good t = eqb (byte_at t 0) 0x54 and eqb (byte_at t 1) 0x57 and eqb (byte_at t 2) 0x42

-- 3: "3 and 4 version 1", one little-endian number
unfoldable pub version_good : List ℕ → Bool
version_good t = eqb (byte_at t 3 + 256 * byte_at t 4) 1

-- 4: "n or m beyond its limits"
unfoldable pub limits_good : List ℕ → Bool
limits_good t = leb 1 (devices_in t) and leb (devices_in t) DEVICES and leb (links_in t) LINKS

-- 5: "Length is exactly 7 + 2n + 3m"
unfoldable pub length_good : List ℕ → Bool
length_good t = eqb (length t) (7 + 2 * devices_in t + 3 * links_in t)

-- "255 for none, otherwise lower than the part's own number"
unfoldable pub parent_good : ℕ → ℕ → Bool
parent_good p parent = eqb parent NONE or ltb parent p

-- "consumer (below n), supplier (below the consumer)"
unfoldable pub ends_good : ℕ → ℕ → ℕ → Bool
ends_good n consumer supplier = ltb consumer n and ltb supplier consumer

-- "by consumer, then supplier": the link from c to s comes strictly before that from c' to s'
unfoldable pub before : ℕ → ℕ → ℕ → ℕ → Bool
before c s c' s' = ltb c c' or (eqb c c' and ltb s s')

-- 6: the entry of device p; "flags (bit 0: ignores children; the rest zero)"
unfoldable pub device_good : List ℕ → ℕ → Bool
device_good t p = parent_good p (device_byte t 0 p) and leb (device_byte t 1 p) 1

-- the entry of link i but for its place; "flags (bit 0 runtime, bit 1 stateless, the rest zero)"
unfoldable pub link_fits : List ℕ → ℕ → Bool
link_fits t i = ends_good (devices_in t) (link_byte t 0 i) (link_byte t 1 i) and leb (link_byte t 2 i) 3

-- "Links ascend strictly": link i comes after the one before it
unfoldable pub ascends : List ℕ → ℕ → Bool
ascends t i = eqb i 0 or before (link_byte t 0 (i - 1)) (link_byte t 1 (i - 1)) (link_byte t 0 i) (link_byte t 1 i)

-- 7: the entry of link i
unfoldable pub link_good : List ℕ → ℕ → Bool
link_good t i = link_fits t i and ascends t i

-- the first faulty entry of each list, or how many entries there are
unfoldable pub bad_device : List ℕ → ℕ
bad_device t = first (λ p. not (device_good t p)) (devices_in t)

unfoldable pub bad_link : List ℕ → ℕ
bad_link t = first (λ i. not (link_good t i)) (links_in t)

-- ---- the answer
-- a refusal's number and index; 0 and 0 where the table is taken
pub record TableAnswer : Type 0 where
  pub number : ℕ
  pub index : ℕ

abbrev answered : ℕ → ℕ → TableAnswer
answered number index = record { number = number; index = index }

-- 6 and 7, the first faulty entry
unfoldable pub entries_answer : List ℕ → TableAnswer
entries_answer t =
    when ltb (bad_device t) (devices_in t) then answered 6 (bad_device t)
    else when ltb (bad_link t) (links_in t) then answered 7 (bad_link t)
    else answered 0 0

-- "a table answers the first fault in reading order"
unfoldable pub table_answer : List ℕ → TableAnswer
table_answer t =
    when ltb (length t) 7 then answered 1 0
    else when not (mark_good t) then answered 2 0
    else when not (version_good t) then answered 3 0
    else when not (limits_good t) then answered 4 0
    else when not (length_good t) then answered 5 0
    else entries_answer t

-- ---- the entries as columns
-- row k: what f gives below n, and "unused rows are zero"
unfoldable pub cell : (ℕ → ℕ) → ℕ → ℕ → ℕ
cell f n k = when ltb k n then f k else 0

unfoldable pub padded : (ℕ → ℕ) → ℕ → ℕ → List ℕ
padded f n rows = column (cell f n) rows

unfoldable pub wiring_in : List ℕ → Wiring
wiring_in t =
    record {
      n = devices_in t;
      m = links_in t;
      parent = padded (device_byte t 0) (devices_in t) ROWS;
      ignore = padded (device_byte t 1) (devices_in t) ROWS;
      consumer = padded (link_byte t 0) (links_in t) LINKS;
      supplier = padded (link_byte t 1) (links_in t) LINKS;
      flags = padded (link_byte t 2) (links_in t) LINKS;
    }
