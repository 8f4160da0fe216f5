-- Records one after another over the memory: the words of the contracts. Assumes nothing.
use Rattle.std.specs.Prelude.{◌≡◌, List, [], ◌∷◌, ◌++◌, ℕ, ◌+◌, ◌*◌, ◌/◌, ◌%◌, ◌≤◌, length, get_or, take, drop, replicate}
use Rattle.model.specs.Limits.{MAXPIECE}
use Rattle.model.specs.State.{State, Carry, with_carry}
use Rattle.model.specs.Records.{Rec, record_of}
use Rattle.model.specs.Steps.{run, replies_in}
use Rattle.model.specs.Sound.{Sound}
use Rattle.memory.specs.Layout.{state_in}
use Rattle.links.specs.Firsts.{first_links}

-- ---- bytes
-- the carried bytes, and a piece after them
abbrev pub joined : List ℕ → ℕ → List ℕ → List ℕ
joined carried used piece = take used carried ++ piece

-- the record at byte i
unfoldable pub record_in : List ℕ → ℕ → Rec
record_in w i = record_of (get_or w i 0) (get_or w (i + 1) 0) (get_or w (i + 2) 0) (get_or w (i + 3) 0)

-- the first four bytes
abbrev pub four_in : List ℕ → List ℕ
four_in w = get_or w 0 0 ∷ get_or w 1 0 ∷ get_or w 2 0 ∷ get_or w 3 0 ∷ []

-- the bytes from byte i on as three rows, zeros after them
abbrev pub rest_in : List ℕ → ℕ → List ℕ
rest_in w i = get_or w i 0 ∷ get_or w (i + 1) 0 ∷ get_or w (i + 2) 0 ∷ []

-- the bytes b at place i of a buffer, the rest of it as it was
unfoldable pub over_at : ℕ → List ℕ → List ℕ → List ℕ
over_at i b buffer = take i buffer ++ (b ++ drop (i + length b) buffer)

-- ---- promises
-- few carried bytes, a short piece, room for its replies
pub record Room (used : ℕ) (piece buffer : List ℕ) : Type 0 where
  pub few : used ≤ 3
  pub short : length piece ≤ MAXPIECE
  pub room : 4 * ((used + length piece) / 4) ≤ length buffer

abbrev pub nothing : Carry
nothing = record { bytes = replicate 3 0; used = 0 }

-- between two records of a piece: a sound state in which no byte waits, and the index of its links
pub record Between (first : List ℕ) (s : State) : Type 0 where
  pub sound : Sound s
  pub none : s.carry ≡ nothing
  pub index : first ≡ first_links s.wiring

-- the bytes w lead from s to t, but for those left over, and their replies stand in the buffer
pub record Led (first : List ℕ) (s : State) (w before : List ℕ) (t : State) (after : List ℕ) : Type 0 where
  pub between : Between first t
  pub state : (run s w).state ≡ with_carry t (rest_in w (4 * (length w / 4))) (length w % 4)
  pub buffer : after ≡ over_at 0 (replies_in (run s w).log) before

-- i bytes on, the rest leads where the whole leads
pub record Reached (first : List ℕ) (s₀ : State) (w before : List ℕ) (i : ℕ) (s : State) (out : List ℕ) : Type 0 where
  pub between : Between first s
  pub state : (run s (drop i w)).state ≡ (run s₀ w).state
  pub buffer : over_at i (replies_in (run s (drop i w)).log) out ≡ over_at 0 (replies_in (run s₀ w).log) before

-- k of count records of the bytes w are answered
pub record Turning (first w before : List ℕ) (count k : ℕ) (s₀ s : State) (out : List ℕ) : Type 0 where
  pub room : 4 * (length w / 4) ≤ length before
  pub many : count ≡ length w / 4
  pub within : k ≤ count
  pub long : length out ≡ length before
  pub reached : Between first s₀ → Reached first s₀ w before (4 * k) s out

-- the same between two memories
pub record Ran (first bytes₀ words₀ before w bytes words after : List ℕ) : Type 0 where
  pub is : Between first (state_in bytes₀ words₀) → Led first (state_in bytes₀ words₀) w before (state_in bytes words) after

-- the same where the source is no longer than a piece and there is room; otherwise nothing is touched
pub record Answered (first bytes₀ words₀ before w bytes words after : List ℕ) : Type 0 where
  pub is : Room 0 w before → Ran first bytes₀ words₀ before w bytes words after
  pub untouched : (Room 0 w before → ⊥) → (bytes ≡ bytes₀) × (words ≡ words₀) × (after ≡ before)
