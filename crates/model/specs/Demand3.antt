-- "Demand 3 in exact words": one claim about a whole list of pieces, at the level of definitions. Assumes nothing.
use Rattle.std.specs.Prelude.{◌≡◌, Bool, not, List, [], ◌∷◌, ◌++◌, map, ℕ, ◌<◌, ◌+◌, ◌*◌, ◌%◌, length, take, eqb}
use Rattle.model.specs.Limits.{EOVERFLOW, EINPROGRESS, minus}
use Rattle.model.specs.Logic.{when◌then◌else◌, ◌and◌, ◌or◌, bit}
use Rattle.model.specs.State.{State, holds_at, usage, link_count, load_of}
use Rattle.model.specs.Records.{Reply}
use Rattle.model.specs.Steps.{Exchange, run, replies_in}
use Rattle.model.specs.Sound.{Supply}
use Rattle.model.specs.Feed.{Piece, Fed, piece_answer, feed_of}

-- ---- the list of pieces, fed
-- each piece gets the bench that the one before it handed back
unfoldable pub feed_all : State → List Piece → List Fed
feed_all s [] = []
feed_all s (p ∷ ps) = feed_of s p ∷ feed_all (feed_of s p).state ps

-- the bench that the last piece handed back
unfoldable pub handed_back : State → List Fed → State
handed_back s [] = s
handed_back s (f ∷ fs) = handed_back f.state fs

-- the joined replies: the reply bytes of the pieces taken, in order
unfoldable pub joined : List Fed → List ℕ
joined [] = []
joined (f ∷ fs) = take (4 * f.replies) f.buffer ++ joined fs

-- ---- the same list by lengths alone
-- the bytes carried after a piece, c before it
unfoldable pub carried_after : ℕ → Piece → ℕ
carried_after c p = when eqb (piece_answer c p) 0 then (c + length p.bytes) % 4 else c

-- the pieces refused are those over 4,096 bytes or without room
unfoldable pub refusals : ℕ → List Piece → List ℕ
refusals c [] = []
refusals c (p ∷ ps) = piece_answer c p ∷ refusals (carried_after c p) ps

-- the joined bytes of the pieces taken
unfoldable pub taken_bytes : ℕ → List Piece → List ℕ
taken_bytes c [] = []
taken_bytes c (p ∷ ps) = (when eqb (piece_answer c p) 0 then p.bytes else []) ++ taken_bytes (carried_after c p) ps

-- ---- "counted"
abbrev pub is_get : ℕ → Bool
is_get kind = eqb kind 3 or eqb kind 4

abbrev pub is_put : ℕ → Bool
is_put kind = eqb kind 5 or eqb kind 6

-- not refused, and finished neither with -75 nor with -115; a reply that asks for a callback has code 0
unfoldable pub effective : Reply → Bool
effective r = not (eqb r.kind 4) and not (eqb r.code (minus EOVERFLOW)) and not (eqb r.code (minus EINPROGRESS))

-- how many records of the kinds given, for device q, are counted
unfoldable pub counted : (ℕ → Bool) → ℕ → List Exchange → ℕ
counted kinds q [] = 0
counted kinds q (e ∷ es) = bit (eqb e.asked.device q and kinds e.asked.kind and effective e.reply) + counted kinds q es

-- ---- the claim for a list of pieces fed from state s, the bench of a table just loaded or, by request Four, of a saved state restored: the
-- plain keeper is fed the joined bytes of the pieces taken. It speaks of what came out: for each piece its refusal's number or 0, the bytes of the
-- joined replies, and the bench z that the last one handed back
pub record AgreedBy (s z : State) (numbers bytes : List ℕ) (ps : List Piece) : Type 0 where
  -- the pieces refused are those over 4,096 bytes or without room
  pub refused : numbers ≡ refusals s.carry.used ps
  pub replies : bytes ≡ replies_in (run s (taken_bytes s.carry.used ps)).log
  -- the whole bench, in every field
  pub state : z ≡ (run s (taken_bytes s.carry.used ps)).state
  pub supply : Supply z.wiring z.devices.status
  -- use count and counted puts are the holds at the start ("demand 3's sum counts from the saved holds"), counted gets and runtime links
  -- whose consumer is powered
  pub uses :
      let log = (run s (taken_bytes s.carry.used ps)).log in
      (q : ℕ) → q < z.wiring.n → usage z q + counted is_put q log ≡ holds_at s q + counted is_get q log + link_count z.wiring z.devices.status q

-- of what each piece gets
abbrev pub Agreed : State → State → List Fed → List Piece → Type 0
Agreed s z fs ps = AgreedBy s z (map (λ (f : Fed). f.number) fs) (joined fs) ps

abbrev pub Agrees : State → List Piece → Type 0
Agrees s ps = Agreed s (handed_back s (feed_all s ps)) (feed_all s ps) ps

-- nothing is carried and nobody holds a device
pub record Fresh (s : State) : Type 0 where
  pub carried : s.carry.used ≡ 0
  pub holds : (q : ℕ) → holds_at s q ≡ 0

-- demand 3: from the bench of a table just loaded, which is fresh, at the start (k = 0) and after each piece
pub record Demand3 (table : List ℕ) (ps : List Piece) : Type 0 where
  pub fresh : Fresh (load_of table).state
  pub agrees : (k : ℕ) → Agrees (load_of table).state (take k ps)
