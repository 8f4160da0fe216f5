-- Demand 3 for calls of `load`, `restore`, `save` and `feed`, by their contracts alone. A battery change hands on the state as it was, so it
-- leaves no trace in what follows. Assumes nothing.
use mathlib.Core.Path.{◌≡◌, refl, sym, ap, ◌∙◌}
use mathlib.Core.List.{List, [], ◌∷◌, map}
use Prim.Native.Nat.{ℕ, zero, suc}
use lib.ListN.{take}
use borrow.Fn.World as World
use contract.Lifetimes.{Lfts}
use denote.Triple.Clauses as Clauses
use borrow.Fn.Kinds as Ends
use Rattle.model.specs.State.{State, Loaded}
use Rattle.model.specs.Sound.{Sound}
use Rattle.model.specs.Steps.{replies_in, run}
use Rattle.model.specs.Feed.{Fed, feed_of}
use Rattle.model.specs.Demand3.{feed_all, handed_back}
use Rattle.model.proofs.Loading.{load_sound}
use Rattle.model.proofs.Pieces.{fed_sound, agreed_as}
use Rattle.keeper_bench.specs.declared.Bench.{Bench}
use Rattle.keeper_bench.specs.Translate.{state_of}
use Rattle.keeper.specs.Calls.{gave, pieces}
use Rattle.keeper.proofs.Calls.{LoadRead, FeedRead, load_call, feed_call}
use Rattle.saved_answer.specs.Answers.{saving_of}
use Rattle.saved_form.specs.Form.{FORM}
use Rattle.saved_form.specs.Saving.{Saved, save_of}
use Rattle.saved_form.specs.Restoring.{Restored, restore_of}
use Rattle.saved_form.proofs.Laws.{restores_sound, saved_restores}
use Rattle.saved.specs.Calls.{SaveCall, RestoreCall, SaveMet, RestoreMet, Start, loading, restoring, bench_at, state_at, Taken, StartMet}
use Rattle.saved.specs.Calls.{Call, feeding, keeping, Linked, last, feeds, AllMet, AgreedOver, taken_by, Unbroken}
use Rattle.saved.specs.contracts.save
use Rattle.saved.proofs.save.Kinds as save-kinds
use Rattle.saved.proofs.save.Reads as save-reads
use Rattle.saved.specs.contracts.restore
use Rattle.saved.proofs.restore.Kinds as restore-kinds
use Rattle.saved.proofs.restore.Reads as restore-reads

-- ---- one call
-- a battery change hands on the state that was saved
pub kept : {s : State} → Sound s → (w : SaveCall) (r : RestoreCall) → state_of w.bench ≡ s → SaveMet w → saving_of w.result ≡ 0 → r.bytes ≡ take FORM w.after
    → RestoreMet r → state_of r.result.bench ≡ s
kept {s} h w r e m z f n =
    let saved : save_of s w.buffer ≡ record { number = saving_of w.result; buffer = w.after } = rw e at (sym m) in
    let number : (save_of s w.buffer).number ≡ 0 = ap (λ (x : Saved). x.number) saved ∙ z in
    let bytes : r.bytes ≡ take FORM (save_of s w.buffer).buffer = f ∙ ap (λ (x : Saved). take FORM x.buffer) (sym saved) in
    ap (λ (x : Restored). x.state) (n ∙ ap restore_of bytes ∙ saved_restores s w.buffer number h)

-- ---- a list of them, from a bench of state s
record Went (s : State) (b : Bench) (cs : List Call) : Type 0 where
  fed : map gave (feeds cs) ≡ feed_all s (pieces (feeds cs))
  left : handed_back s (map gave (feeds cs)) ≡ state_of (last b cs)

went : (s : State) (b : Bench) (cs : List Call) → Sound s → state_of b ≡ s → Linked b cs → AllMet cs → Went s b cs
unfolding Linked AllMet feeds last feed_all handed_back
went s b [] h e l m = record { fed = refl; left = sym e }
went s b (feeding c ∷ cs) h e l m =
    let f : gave c ≡ feed_of s c.piece = rw (l.0, e) at m.0 in
    let g = went (feed_of s c.piece).state c.result.bench cs (fed_sound s c.piece h) (ap (λ (x : Fed). x.state) f) l.1 m.1 in
    record {
      fed = rw (← f) (ap (◌∷◌ (gave c)) (rw (← f) at g.fed));
      left = rw (← f) at g.left;
    }
went s b (keeping w r ∷ cs) h e l m =
    let z = kept h w r (ap state_of l.0 ∙ e) m.0 l.1 l.2 m.1 in
    let g = went s r.result.bench cs h z l.3 m.2 in
    record { fed = g.fed; left = g.left }

-- ---- and its start
start_state : (s : Start) → StartMet s → state_of (bench_at s) ≡ state_at s
unfolding StartMet bench_at state_at
start_state (loading l) m = ap (λ (x : Loaded). x.state) m
start_state (restoring r) m = ap (λ (x : Restored). x.state) m

start_sound : (s : Start) → StartMet s → Taken s → Sound (state_at s)
unfolding StartMet Taken state_at
start_sound (loading l) m e = load_sound l.table (sym (ap (λ (x : Loaded). x.answer.number) m) ∙ e)
start_sound (restoring r) m e = restores_sound r.bytes (sym (ap (λ (x : Restored). x.number) m) ∙ e)

agreed : (s : Start) → StartMet s → Taken s → (cs : List Call) → Linked (bench_at s) cs → AllMet cs → AgreedOver s cs
agreed s m e cs l n =
    let h = start_sound s m e in
    let g = went (state_at s) (bench_at s) cs h (start_state s m) l n in
    agreed_as (state_at s) _ (map gave (feeds cs)) (pieces (feeds cs)) h g.fed g.left

-- ---- calls as the check of a caller reads them
pub record SaveRead : Type 1 where
  pub κs : Lfts 1
  pub args : World.ArgsD save.signature κs
  pub result : World.ResD save.signature κs
  pub exit : Clauses.AtExit (Ends.ended_of 1 save-kinds.ps save-kinds.r) κs
  pub learnt : save-reads.Learnt κs args result exit

pub record RestoreRead : Type 1 where
  pub κs : Lfts 1
  pub args : World.ArgsD restore.signature κs
  pub result : World.ResD restore.signature κs
  pub exit : Clauses.AtExit (Ends.ended_of 1 restore-kinds.ps restore-kinds.r) κs
  pub learnt : restore-reads.Learnt κs args result exit

abbrev pub save_call : SaveRead → SaveCall
save_call r = record { bench = r.args.0; buffer = r.args.1.0.now; result = r.result; after = r.exit.1.0.now }

abbrev pub restore_call : RestoreRead → RestoreCall
restore_call r = record { bytes = r.args.0.now; result = r.result }

pub data StartRead : Type 1 where
  load_read : LoadRead → StartRead
  restore_read : RestoreRead → StartRead

pub data CallRead : Type 1 where
  feed_read : FeedRead → CallRead
  keep_read : SaveRead → RestoreRead → CallRead

unfoldable pub start_of : StartRead → Start
start_of (load_read l) = loading (load_call l)
start_of (restore_read r) = restoring (restore_call r)

unfoldable pub calls_of : List CallRead → List Call
calls_of [] = []
calls_of (feed_read r ∷ rs) = feeding (feed_call r) ∷ calls_of rs
calls_of (keep_read w r ∷ rs) = keeping (save_call w) (restore_call r) ∷ calls_of rs

-- what is learnt is that the calls meet the contracts
start_met : (l : StartRead) → StartMet (start_of l)
unfolding start_of StartMet
start_met (load_read l) = l.learnt
start_met (restore_read r) = r.learnt

all_met : (rs : List CallRead) → AllMet (calls_of rs)
unfolding calls_of AllMet
all_met [] = tt
all_met (feed_read r ∷ rs) = (r.learnt, all_met rs)
all_met (keep_read w r ∷ rs) = (w.learnt, r.learnt, all_met rs)

-- the first k calls
first_linked : (b : Bench) (cs : List Call) (k : ℕ) → Linked b cs → Linked b (take k cs)
unfolding Linked
first_linked b cs zero l = tt
first_linked b [] (suc k) l = tt
first_linked b (feeding c ∷ cs) (suc k) l = (l.0, first_linked c.result.bench cs k l.1)
first_linked b (keeping w r ∷ cs) (suc k) l = (l.0, l.1, l.2, first_linked r.result.bench cs k l.3)

first_met : (cs : List Call) (k : ℕ) → AllMet cs → AllMet (take k cs)
unfolding AllMet
first_met cs zero m = tt
first_met [] (suc k) m = tt
first_met (feeding c ∷ cs) (suc k) m = (m.0, first_met cs k m.1)
first_met (keeping w r ∷ cs) (suc k) m = (m.0, m.1, first_met cs k m.2)

-- demand 3: any table that loads or any saved state that restores, any list of calls each given the bench that the one before it handed back,
-- with battery changes anywhere; at the start (k = 0) and after each call
pub demand_3_kept : (l : StartRead) → Taken (start_of l) → (rs : List CallRead) → Linked (bench_at (start_of l)) (calls_of rs) → (k : ℕ)
    → AgreedOver (start_of l) (take k (calls_of rs))
demand_3_kept l e rs i k =
    let cs = calls_of rs in
    let b = bench_at (start_of l) in
    agreed (start_of l) (start_met l) e (take k cs) (first_linked b cs k i) (first_met cs k (all_met rs))

-- as if there had been no break: what was taken decides the replies and the bench, however it was cut
pub unbroken : (l : StartRead) → Taken (start_of l) → (rs qs : List CallRead) → Linked (bench_at (start_of l)) (calls_of rs) → Linked (bench_at (start_of l)) (calls_of qs)
    → taken_by (start_of l) (calls_of rs) ≡ taken_by (start_of l) (calls_of qs) → Unbroken (start_of l) (calls_of rs) (calls_of qs)
unbroken l e rs qs i j same =
    let s = start_of l in
    let a = agreed s (start_met l) e (calls_of rs) i (all_met rs) in
    let b = agreed s (start_met l) e (calls_of qs) j (all_met qs) in
    record {
      replies = a.replies ∙ ap (λ (x : List ℕ). replies_in (run (state_at s) x).log) same ∙ sym b.replies;
      state = a.state ∙ ap (λ (x : List ℕ). (run (state_at s) x).state) same ∙ sym b.state;
    }
