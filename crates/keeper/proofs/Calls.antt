-- Demand 3 for calls of `load` and `feed`, by their contracts alone. Assumes nothing.
use mathlib.Core.Path.{◌≡◌, refl, sym, ap, ◌∙◌}
use mathlib.Core.List.{List, [], ◌∷◌, map}
use Prim.Native.Nat.{ℕ, zero, suc}
use lib.ListN.{take}
use borrow.Fn.World as World
use contract.Lifetimes.{Lfts}
use denote.Triple.Clauses as Clauses
use borrow.Fn.Kinds as Ends
use Rattle.model.specs.State.{State, load_of}
use Rattle.model.specs.Sound.{Sound}
use Rattle.model.specs.Feed.{Fed, feed_of}
use Rattle.model.specs.Demand3.{feed_all, handed_back}
use Rattle.model.proofs.Loading.{load_sound, load_holds, load_carry}
use Rattle.model.proofs.Pieces.{agreed_as}
use Rattle.table.specs.Answers.{answer_of}
use Rattle.keeper_bench.specs.declared.Bench.{Bench}
use Rattle.keeper_bench.specs.Translate.{state_of}
use Rattle.keeper.specs.Calls.{LoadCall, FeedCall, gave, pieces, Linked, last, LoadMet, AllMet, Agreed, AgreedFrom}
use Rattle.keeper.specs.contracts.load
use Rattle.keeper.proofs.load.Kinds as load-kinds
use Rattle.keeper.proofs.load.Reads as load-reads
use Rattle.keeper.specs.contracts.feed
use Rattle.keeper.proofs.feed.Kinds as feed-kinds
use Rattle.keeper.proofs.feed.Reads as feed-reads

-- ---- lists of calls that meet the contract
fed : (b : Bench) (cs : List FeedCall) → Linked b cs → AllMet cs → map gave cs ≡ feed_all (state_of b) (pieces cs)
unfolding Linked AllMet feed_all
fed b [] l m = refl
fed b (c ∷ cs) l m =
    let e : gave c ≡ feed_of (state_of b) c.piece = rw l.0 at m.0 in
    rw (← e) (ap (λ (fs : List Fed). gave c ∷ fs) (fed c.result.bench cs l.1 m.1))

left : (b : Bench) (cs : List FeedCall) → handed_back (state_of b) (map gave cs) ≡ state_of (last b cs)
unfolding handed_back last
left b [] = refl
left b (c ∷ cs) = left c.result.bench cs

-- the first k calls
first_linked : (b : Bench) (cs : List FeedCall) (k : ℕ) → Linked b cs → Linked b (take k cs)
unfolding Linked
first_linked b cs zero l = tt
first_linked b [] (suc k) l = tt
first_linked b (c ∷ cs) (suc k) l = (l.0, first_linked c.result.bench cs k l.1)

first_met : (cs : List FeedCall) (k : ℕ) → AllMet cs → AllMet (take k cs)
unfolding AllMet
first_met cs zero m = tt
first_met [] (suc k) m = tt
first_met (c ∷ cs) (suc k) m = (m.0, first_met cs k m.1)

-- from a bench of any sound state
pub agreed_at : (s : State) (b : Bench) (cs : List FeedCall) → Sound s → state_of b ≡ s → Linked b cs → AllMet cs → Agreed s (state_of (last b cs)) cs
agreed_at s b cs h z i m = agreed_as s _ (map gave cs) (pieces cs) h (rw z at (fed b cs i m)) (rw z at (left b cs))

-- from the bench of a table
pub agreed : (l : LoadCall) → LoadMet l → (answer_of l.result.answer).number ≡ 0 → (cs : List FeedCall) → Linked l.result.bench cs → AllMet cs
    → AgreedFrom l.table l.result.bench cs
agreed l h e cs i m =
    let b = l.result.bench in
    let z : state_of b ≡ (load_of l.table).state = ap (λ x. x.state) h in
    let taken = sym (ap (λ x. x.answer.number) h) ∙ e in
    record {
      fresh = record { carried = load_carry l.table taken; holds = load_holds l.table taken };
      agreed = agreed_at (load_of l.table).state b cs (load_sound l.table taken) z i m;
    }

-- ---- calls as the check of a caller reads them: the arguments, the result, what lent places hold at the end, and what is learnt from the
-- contract
pub record LoadRead : Type 1 where
  pub κs : Lfts 1
  pub args : World.ArgsD load.signature κs
  pub result : World.ResD load.signature κs
  pub exit : Clauses.AtExit (Ends.ended_of 1 load-kinds.ps load-kinds.r) κs
  pub learnt : load-reads.Learnt κs args result exit

pub record FeedRead : Type 1 where
  pub κs : Lfts 2
  pub args : World.ArgsD feed.signature κs
  pub result : World.ResD feed.signature κs
  pub exit : Clauses.AtExit (Ends.ended_of 2 feed-kinds.ps feed-kinds.r) κs
  pub learnt : feed-reads.Learnt κs args result exit

abbrev pub load_call : LoadRead → LoadCall
load_call r = record { table = r.args.0.now; result = r.result }

abbrev pub feed_call : FeedRead → FeedCall
feed_call r = record { bench = r.args.0; piece = record { bytes = r.args.1.0.now; buffer = r.args.1.1.0.now }; result = r.result; after = r.exit.1.1.0.now }

abbrev pub feed_calls : List FeedRead → List FeedCall
feed_calls rs = map feed_call rs

-- what is learnt is that the call meets the contract
load_met : (r : LoadRead) → LoadMet (load_call r)
load_met r = r.learnt

all_met : (rs : List FeedRead) → AllMet (feed_calls rs)
unfolding AllMet
all_met [] = tt
all_met (r ∷ rs) = (r.learnt, all_met rs)

-- demand 3: any table that loads, any list of calls each given the bench that the one before it handed back, at the start (k = 0) and
-- after each piece
pub demand_3_calls :
    (l : LoadRead) → (answer_of (load_call l).result.answer).number ≡ 0
    → (rs : List FeedRead) → Linked (load_call l).result.bench (feed_calls rs)
    → (k : ℕ) → AgreedFrom (load_call l).table (load_call l).result.bench (take k (feed_calls rs))
demand_3_calls l e rs i k =
    let cs = feed_calls rs in
    let b = (load_call l).result.bench in
    agreed (load_call l) (load_met l) e (take k cs) (first_linked b cs k i) (first_met cs k (all_met rs))
