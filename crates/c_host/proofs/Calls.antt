-- Demand 3 for a C host: a list of calls through the bytes that the host keeps, by the contracts of `keeper_load` and `keeper_feed` alone.
-- Assumes nothing.
use mathlib.Core.Path.{◌≡◌}
use mathlib.Core.List.{List, [], ◌∷◌, map}
use Prim.Native.Nat.{ℕ}
use lib.IntN.{pos}
use lib.ListN.{take}
use borrow.Fn.World as World
use contract.Lifetimes.{Lfts}
use denote.Triple.Clauses as Clauses
use borrow.Fn.Kinds as Ends
use Rattle.c_calls.specs.Hosts.{LoadCall, FeedCall, LoadMet, AllMet, Linked, AgreedBytes}
use Rattle.c_calls.proofs.Hosts.{agreed, first_linked, first_met}
use Rattle.c_host.specs.contracts.keeper_load as load
use Rattle.c_host.proofs.keeper_load.Kinds as load-kinds
use Rattle.c_host.proofs.keeper_load.Reads as load-reads
use Rattle.c_host.specs.contracts.keeper_feed as feed
use Rattle.c_host.proofs.keeper_feed.Kinds as feed-kinds
use Rattle.c_host.proofs.keeper_feed.Reads as feed-reads

-- ---- calls as the check of a caller reads them: the arguments, the result, what lent places hold at the end, and what is learnt from the
-- contract
pub record LoadRead : Type 1 where
  pub κs : Lfts 2
  pub args : World.ArgsD load.signature κs
  pub result : World.ResD load.signature κs
  pub exit : Clauses.AtExit (Ends.ended_of 2 load-kinds.ps load-kinds.r) κs
  pub learnt : load-reads.Learnt κs args result exit

pub record FeedRead : Type 1 where
  pub κs : Lfts 3
  pub args : World.ArgsD feed.signature κs
  pub result : World.ResD feed.signature κs
  pub exit : Clauses.AtExit (Ends.ended_of 3 feed-kinds.ps feed-kinds.r) κs
  pub learnt : feed-reads.Learnt κs args result exit

abbrev pub load_call : LoadRead → LoadCall
load_call r = record { table = r.args.0.now; state = r.args.1.0.now; gave = record { result = r.result; state = r.exit.1.0.now } }

abbrev pub feed_call : FeedRead → FeedCall
feed_call r =
    record {
      state = r.args.0.now;
      piece = record { bytes = r.args.1.0.now; buffer = r.args.1.1.0.now };
      gave = record { result = r.result; state = r.exit.0.now; replies = r.exit.1.1.0.now };
    }

abbrev pub feed_calls : List FeedRead → List FeedCall
feed_calls rs = map feed_call rs

-- what is learnt is that the call meets the contract
load_met : (r : LoadRead) → LoadMet (load_call r)
load_met r = r.learnt

all_met : (rs : List FeedRead) → AllMet (feed_calls rs)
unfolding AllMet
all_met [] = tt
all_met (r ∷ rs) = (r.learnt, all_met rs)

-- demand 3: any table that loads, any list of calls each given the bytes of the saved state that the one before it left, at the start (k = 0)
-- and after each piece
pub demand_3_host :
    (l : LoadRead) → (load_call l).gave.result ≡ pos 0
    → (rs : List FeedRead) → Linked (load_call l).gave.state (feed_calls rs)
    → (k : ℕ) → AgreedBytes (load_call l).table (load_call l).gave.state (take k (feed_calls rs))
demand_3_host l e rs i k =
    let cs = feed_calls rs in
    let bytes = (load_call l).gave.state in
    agreed (load_call l) (load_met l) e (take k cs) (first_linked bytes cs k i) (first_met cs k (all_met rs))
