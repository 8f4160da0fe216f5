-- When two lists of entries say what a loaded table says, and when two loaded tables say the same. Assumes nothing.
use Rattle.std.specs.Prelude.{◌≡◌, List, ℕ, ◌*◌, ◌<◌, length, get_or}
use Rattle.model.specs.Table.{Wiring}
use Rattle.model.specs.Writing.{device_field, link_field, pair}

-- link i of those given is link k of the wiring, flags included
pub record SameLink (links : List ℕ) (i : ℕ) (w : Wiring) (k : ℕ) : Type 0 where
  pub consumer : link_field links 0 i ≡ get_or w.consumer k 0
  pub supplier : link_field links 1 i ≡ get_or w.supplier k 0
  pub flags : link_field links 2 i ≡ get_or w.flags k 0

-- the devices given are those of the wiring, and the links given are its links: each of the one is among the other, none stands twice, and
-- so they are as many; in any order
pub record Says (devices links : List ℕ) (w : Wiring) : Type 0 where
  pub devices_whole : length devices ≡ 2 * w.n
  pub links_whole : length links ≡ 3 * w.m
  pub parent : (p : ℕ) → p < w.n → device_field devices 0 p ≡ get_or w.parent p 0
  pub ignore : (p : ℕ) → p < w.n → device_field devices 1 p ≡ get_or w.ignore p 0
  pub given : (i : ℕ) → i < w.m → (k : ℕ) × (k < w.m) × SameLink links i w k
  pub listed : (k : ℕ) → k < w.m → (i : ℕ) × (i < w.m) × SameLink links i w k
  pub once : (i j : ℕ) → i < j → j < w.m → pair links i ≡ pair links j → ⊥

-- link i of one wiring is link k of another
pub record LinkIs (v : Wiring) (i : ℕ) (w : Wiring) (k : ℕ) : Type 0 where
  pub consumer : get_or v.consumer i 0 ≡ get_or w.consumer k 0
  pub supplier : get_or v.supplier i 0 ≡ get_or w.supplier k 0
  pub flags : get_or v.flags i 0 ≡ get_or w.flags k 0

-- every link of one wiring is a link of the other
abbrev pub LinksAmong : Wiring → Wiring → Type 0
LinksAmong v w = (i : ℕ) → i < v.m → (k : ℕ) × (k < w.m) × LinkIs v i w k

-- the same devices, and the same set of links
pub record SameWiring (v w : Wiring) : Type 0 where
  pub count : v.n ≡ w.n
  pub parent : (p : ℕ) → p < v.n → get_or v.parent p 0 ≡ get_or w.parent p 0
  pub ignore : (p : ℕ) → p < v.n → get_or v.ignore p 0 ≡ get_or w.ignore p 0
  pub there : LinksAmong v w
  pub back : LinksAmong w v
