-- A piece and the carried bytes before it, record by record: the words of the contracts. Assumes nothing.
use Rattle.std.specs.Prelude.{◌≡◌, List, ◌++◌, ℕ, ◌+◌, ◌-◌, ◌*◌, ◌/◌, ◌≤◌, length, take, drop}
use Rattle.model.specs.Limits.{MAXPIECE}
use Rattle.memory.specs.Layout.{state_in}
use Rattle.record_loop.specs.Runs.{joined, rest_in, Room, Between, Led, Ran}

-- byte i of at most 3 carried bytes and a piece
pub record At (used i : ℕ) : Type 0 where
  pub few : used ≤ 3
  pub near : i ≤ MAXPIECE + 3

-- a short piece from byte `from` on, and room for its replies after the first
pub record RoomFrom (from : ℕ) (piece buffer : List ℕ) : Type 0 where
  pub within : from ≤ length piece
  pub short : length piece ≤ MAXPIECE
  pub one : 4 ≤ length buffer
  pub room : 4 * ((length piece - from) / 4) ≤ length buffer - 4

-- the bytes of a piece from byte `from` on, their replies in the part of the buffer after the first
pub record RanFrom (from : ℕ) (first bytes₀ words₀ before piece bytes words after : List ℕ) : Type 0 where
  pub part : List ℕ
  pub is : Between first (state_in bytes₀ words₀) → Led first (state_in bytes₀ words₀) (drop from piece) (drop 4 before) (state_in bytes words) part
  pub back : after ≡ take 4 before ++ part

-- the carried bytes and the piece: where there is room, what they lead to and the bytes left over; otherwise nothing is touched
pub record PieceAnswered (first bytes₀ words₀ before held : List ℕ) (used : ℕ) (piece bytes words after rest : List ℕ) : Type 0 where
  pub is : Room used piece before → Ran first bytes₀ words₀ before (joined held used piece) bytes words after
  pub left : Room used piece before → rest ≡ rest_in (joined held used piece) (4 * ((used + length piece) / 4))
  pub untouched : (Room used piece before → ⊥) → (bytes ≡ bytes₀) × (words ≡ words₀) × (after ≡ before)
