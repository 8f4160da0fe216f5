-- "Demand 3 in exact words", said of a C host: a list of calls through the bytes that the host keeps, and what came out of it. Assumes nothing.
use Rattle.std.specs.Prelude.{◌≡◌, List, [], ◌∷◌, ◌++◌, map, ℕ, ◌*◌, take}
use Rattle.model.specs.State.{load_of}
use Rattle.model.specs.Feed.{Piece}
use Rattle.model.specs.Demand3.{AgreedBy, Fresh}
use Rattle.saved_form.specs.Form.{FORM, form}
use Rattle.c_calls.specs.Numbers.{refusal_in, count_in}
use Rattle.c_calls.specs.Bytes.{bench_in}
use Rattle.c_calls.specs.Calls.{LoadGave, FeedGave, load_bytes, feed_bytes}

-- ---- calls: what was given, and what came back
pub record LoadCall : Type 0 where
  pub table : List ℕ
  pub state : List ℕ
  pub gave : LoadGave

pub record FeedCall : Type 0 where
  pub state : List ℕ
  pub piece : Piece
  pub gave : FeedGave

abbrev pub pieces : List FeedCall → List Piece
pieces cs = map (λ (c : FeedCall). c.piece) cs

-- what the contracts say of a call, and of each call of a list
abbrev pub LoadMet : LoadCall → Type 0
LoadMet c = c.gave ≡ load_bytes c.table c.state

abbrev pub FeedMet : FeedCall → Type 0
FeedMet c = c.gave ≡ feed_bytes c.state c.piece

unfoldable pub AllMet : List FeedCall → Type 0
AllMet [] = Unit {0}
AllMet (c ∷ cs) = FeedMet c × AllMet cs

-- ---- "Each piece gets the bench that the one before it handed back": the bytes of the saved state that the call before left, in the same buffer
-- or in another. What else stands in the buffer is the host's
unfoldable pub Linked : List ℕ → List FeedCall → Type 0
Linked bytes [] = Unit {0}
Linked bytes (c ∷ cs) = (take FORM c.state ≡ take FORM bytes) × Linked c.gave.state cs

-- the state bytes that the last one left
unfoldable pub last : List ℕ → List FeedCall → List ℕ
last bytes [] = bytes
last bytes (c ∷ cs) = last c.gave.state cs

-- ---- what came out: for each piece its refusal's number or 0
abbrev pub refusals_in : List FeedCall → List ℕ
refusals_in cs = map (λ (c : FeedCall). refusal_in c.gave.result) cs

-- the joined replies: the reply bytes of the pieces taken, in order
unfoldable pub joined_in : List FeedCall → List ℕ
joined_in [] = []
joined_in (c ∷ cs) = take (4 * count_in c.gave.result) c.gave.replies ++ joined_in cs

-- ---- the claim for the calls cs after a call of load that took the table and left state bytes: what came out agrees with the plain keeper, which
-- is fed the joined bytes of the pieces taken, and the bytes left are the one saved form of its bench
pub record AgreedBytes (table bytes : List ℕ) (cs : List FeedCall) : Type 0 where
  pub fresh : Fresh (load_of table).state
  pub agreed : AgreedBy (load_of table).state (bench_in (last bytes cs)) (refusals_in cs) (joined_in cs) (pieces cs)
  pub saved : take FORM (last bytes cs) ≡ form (bench_in (last bytes cs))
