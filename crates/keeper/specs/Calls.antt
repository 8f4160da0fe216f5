-- "Demand 3 in exact words", said of calls of `load` and `feed`: what they were given, and what they handed back. Assumes nothing.
use Rattle.std.specs.Prelude.{◌≡◌, List, [], ◌∷◌, map, ℕ}
use Rattle.model.specs.State.{State, load_of}
use Rattle.model.specs.Feed.{Piece, Fed, feed_of}
use Rattle.model.specs.Demand3.{Fresh}
use Rattle.model.specs.Demand3 as model
use Rattle.keeper_bench.specs.declared.Bench.{Bench}
use Rattle.keeper_bench.specs.Translate.{state_of}
use Rattle.keeper.specs.declared.Loaded as declared
use Rattle.keeper.specs.declared.Fed as declared-fed
use Rattle.keeper.specs.Translate.{loaded_of, fed_of}

-- ---- calls
pub record LoadCall : Type 0 where
  pub table : List ℕ
  pub result : declared.Loaded

-- "Each piece brings its own bytes and a reply buffer of any length and content"; `after` is the buffer as it is left
pub record FeedCall : Type 0 where
  pub bench : Bench
  pub piece : Piece
  pub result : declared-fed.Fed
  pub after : List ℕ

-- what a call gave, in the model's words
abbrev pub gave : FeedCall → Fed
gave c = fed_of c.result c.after

abbrev pub pieces : List FeedCall → List Piece
pieces cs = map (λ (c : FeedCall). c.piece) cs

-- ---- "Each piece gets the bench that the one before it handed back", the first one b; "Nothing else alters the bench meanwhile"
unfoldable pub Linked : Bench → List FeedCall → Type 0
Linked b [] = Unit {0}
Linked b (c ∷ cs) = (c.bench ≡ b) × Linked c.result.bench cs

-- the bench that the last one handed back
unfoldable pub last : Bench → List FeedCall → Bench
last b [] = b
last b (c ∷ cs) = last c.result.bench cs

-- ---- what the contracts say of a call, and of each call of a list
abbrev pub LoadMet : LoadCall → Type 0
LoadMet l = loaded_of l.result ≡ load_of l.table

abbrev pub FeedMet : FeedCall → Type 0
FeedMet c = gave c ≡ feed_of (state_of c.bench) c.piece

unfoldable pub AllMet : List FeedCall → Type 0
AllMet [] = Unit {0}
AllMet (c ∷ cs) = FeedMet c × AllMet cs

-- ---- the claim for the calls cs from state s to state z: the plain keeper starts from s, and is fed the joined bytes of the pieces taken. From a
-- table, s is the state just loaded, with nothing carried and no holds
abbrev pub Agreed : State → State → List FeedCall → Type 0
Agreed s z cs = model.Agreed s z (map gave cs) (pieces cs)

-- the same from the bench of a table just loaded, which is fresh: with no bytes carried and no holds the claim is document 01's
pub record AgreedFrom (table : List ℕ) (b : Bench) (cs : List FeedCall) : Type 0 where
  pub fresh : Fresh (load_of table).state
  pub agreed : Agreed (load_of table).state (state_of (last b cs)) cs
