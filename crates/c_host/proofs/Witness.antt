-- Calls as demand 3 speaks of them exist: for any table that loads, any state bytes with room and any list of pieces there is a call of
-- `keeper_load` and a list of calls of `keeper_feed`, each given the bytes that the one before it left, read as the theorem reads them.
-- Assumes nothing.
use mathlib.Core.Path.{◌≡◌, refl, ap}
use mathlib.Core.List.{List, [], ◌∷◌}
use Prim.Native.Nat.{ℕ, ◌≤◌}
use lib.IntN.{pos}
use lib.ListN.{length, take}
use denote.Ref.{Bor, MutBor}
use Rattle.model.specs.State.{load_of}
use Rattle.model.specs.Feed.{Piece}
use Rattle.saved_form.specs.Form.{FORM}
use Rattle.c_calls.specs.Calls.{load_bytes, feed_bytes}
use Rattle.c_calls.specs.Hosts.{LoadCall, FeedCall, pieces, LoadMet, FeedMet, Linked, AgreedBytes}
use Rattle.c_calls.proofs.Hosts.{load_taken}
use Rattle.c_host.proofs.Calls.{LoadRead, FeedRead, load_call, feed_calls, demand_3_host}

-- where a reference points, its ghost name and the lifetimes are any
abbrev lent : List ℕ → Bor (List ℕ)
lent x = record { ref_ptr = (0, 0); now = x }

abbrev lent_mut : List ℕ → MutBor (List ℕ)
lent_mut x = record { ref_ptr = (0, 0); ghost_name = 0; now = x }

abbrev load_reading : (c : LoadCall) → LoadMet c → LoadRead
load_reading c m =
    record {
      κs = ([], ([], tt));
      args = (lent c.table, (lent_mut c.state, tt));
      result = c.gave.result;
      exit = (lent c.table, (lent_mut c.gave.state, tt));
      learnt = m;
    }

abbrev feed_reading : (c : FeedCall) → FeedMet c → FeedRead
feed_reading c m =
    record {
      κs = ([], ([], ([], tt)));
      args = (lent_mut c.state, (lent c.piece.bytes, (lent_mut c.piece.buffer, tt)));
      result = c.gave.result;
      exit = (lent_mut c.gave.state, (lent c.piece.bytes, (lent_mut c.gave.replies, tt)));
      learnt = m;
    }

-- ---- a list of calls on the same buffer
pub record Chain (bytes : List ℕ) (ps : List Piece) : Type 1 where
  pub reads : List FeedRead
  pub given : pieces (feed_calls reads) ≡ ps
  pub linked : Linked bytes (feed_calls reads)

feed_call_lem : List ℕ → Piece → FeedCall
feed_call_lem bytes p = record { state = bytes; piece = p; gave = feed_bytes bytes p }

chain : (bytes : List ℕ) (ps : List Piece) → Chain bytes ps
unfolding Linked feed_call_lem
chain bytes [] = record { reads = []; given = refl; linked = tt }
chain bytes (p ∷ ps) =
    let r = chain (feed_bytes bytes p).state ps in
    record { reads = feed_reading (feed_call_lem bytes p) refl ∷ r.reads; given = ap (◌∷◌ p) r.given; linked = (refl, r.linked) }

-- ---- and the call of load before them
pub record Calls (table state : List ℕ) (ps : List Piece) : Type 1 where
  pub load : LoadRead
  pub given : (load_call load).table ≡ table
  pub taken : (load_call load).gave.result ≡ pos 0
  pub fed : Chain (load_call load).gave.state ps

load_call_lem : List ℕ → List ℕ → LoadCall
load_call_lem table state = record { table = table; state = state; gave = load_bytes table state }

pub calls_exist : (table : List ℕ) → (load_of table).answer.number ≡ 0 → (state : List ℕ) → FORM ≤ length state → (ps : List Piece) → Calls table state ps
unfolding load_call_lem
calls_exist table e state room ps =
    record {
      load = load_reading (load_call_lem table state) refl;
      given = refl;
      taken = load_taken table state e room;
      fed = chain (load_bytes table state).state ps;
    }

-- ---- demand 3 of them
pub host_agrees : (table : List ℕ) (e : (load_of table).answer.number ≡ 0) (state : List ℕ) (room : FORM ≤ length state) (ps : List Piece) (k : ℕ)
    → let c = calls_exist table e state room ps in AgreedBytes (load_call c.load).table (load_call c.load).gave.state (take k (feed_calls c.fed.reads))
host_agrees table e state room ps k =
    let c = calls_exist table e state room ps in
    demand_3_host c.load c.taken c.fed.reads c.fed.linked k
