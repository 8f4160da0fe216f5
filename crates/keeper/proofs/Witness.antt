-- Calls as demand 3 speaks of them exist: for any table that loads and any list of pieces there is a call of `load` and a list of calls of
-- `feed`, each given the bench that the one before it handed back, and read as the theorem reads them. So the theorem says something of the
-- worked table and any pieces. Assumes nothing.
use mathlib.Core.Path.{◌≡◌, refl, sym, ap, subst}
use mathlib.Core.List.{List, [], ◌∷◌}
use mathlib.Core.Logic.{◌⊎◌, inl, inr, ⊎_elim}
use Prim.Native.Nat.{ℕ}
use native.Mathlib.Omega.{arith}
use lib.ListN.{length, take}
use denote.Ref.{Bor, MutBor}
use Rattle.model.specs.Table.{TableAnswer, table_answer, entries_answer}
use Rattle.model.specs.State.{State, Loaded, load_of}
use Rattle.model.specs.Steps.{run}
use Rattle.model.specs.Sound.{Sound}
use Rattle.model.specs.Feed.{Piece, piece_answer, feed_of}
use Rattle.model.specs.Day.{day_table}
use Rattle.model.proofs.Basics.{by_if}
use Rattle.model.proofs.Loading.{load_sound}
use Rattle.model.proofs.Running.{run_sound}
use Rattle.model.proofs.Pieces.{piece_taken, piece_refused}
use Rattle.model.proofs.Day.{day_loads}
use Rattle.table.specs.Answers.{answer_of}
use Rattle.std.specs.Prelude.{Result, Ok, Err}
use Rattle.record_answer.specs.declared.Refusal.{Refusal}
use Rattle.record_answer.specs.declared.Refusal.TheVariants.{Long, Room}
use Rattle.record_answer.specs.Answers.{number_of, replies_of}
use Rattle.keeper_bench.specs.declared.Bench.{Bench}
use Rattle.keeper_bench.specs.Translate.{state_of, bench_of}
use Rattle.keeper_bench.proofs.Translations.{sound_back_and_there}
use Rattle.keeper.specs.Calls.{LoadCall, FeedCall, pieces, Linked, LoadMet, FeedMet, AgreedFrom}
use Rattle.keeper.proofs.Calls.{LoadRead, FeedRead, load_call, feed_calls, demand_3_calls}

-- ---- one call of `feed` on a bench of a sound state
-- an answer that says what the model's does, and the bench of the state that is left
pub record Given (b : Bench) (p : Piece) : Type 0 where
  pub call : FeedCall
  pub bench : call.bench ≡ b
  pub piece : call.piece ≡ p
  pub met : FeedMet call
  pub sound : Sound (state_of call.result.bench)

-- by the answer and the state that the model gives
given : (b : Bench) (p : Piece) (a : Result ℕ Refusal) (t : State) (after : List ℕ) → Sound t
    → feed_of (state_of b) p ≡ record { number = number_of a; replies = replies_of a; state = t; buffer = after } → Given b p
given b p a t after h e =
    let z = sound_back_and_there h in
    record {
      call = record { bench = b; piece = p; result = record { answer = a; bench = bench_of t }; after = after };
      bench = refl;
      piece = refl;
      met = rw (z, e);
      sound = rw z h;
    }

-- a piece is refused with 22 or 23, or taken
answers : (c : ℕ) (p : Piece) → (piece_answer c p ≡ 22) ⊎ ((piece_answer c p ≡ 23) ⊎ (piece_answer c p ≡ 0))
unfolding piece_answer
answers c p =
    by_if (λ n. (n ≡ 22) ⊎ ((n ≡ 23) ⊎ (n ≡ 0))) _ _ _ (λ e. inl refl)
    (λ e. by_if (λ n. (n ≡ 22) ⊎ ((n ≡ 23) ⊎ (n ≡ 0))) _ _ _ (λ f. inr (inl refl)) (λ f. inr (inr refl)))

pub one : (b : Bench) (p : Piece) → Sound (state_of b) → Given b p
one b p h =
    let s = state_of b in
    ⊎_elim (λ e. given b p (Err Long) s p.buffer h (rw e at (piece_refused s h p (rw e))))
    (⊎_elim (λ e. given b p (Err Room) s p.buffer h (rw e at (piece_refused s h p (rw e))))
    (λ e. given b p (Ok (length (run s p.bytes).log)) (run s p.bytes).state _ (run_sound s p.bytes h) (piece_taken s h p (rw e))))
    (answers s.carry.used p)

-- ---- calls as the check of a caller reads them: where a reference points, its ghost name and the lifetimes are any
abbrev pub lent : List ℕ → Bor (List ℕ)
lent x = record { ref_ptr = (0, 0); now = x }

abbrev pub lent_mut : List ℕ → MutBor (List ℕ)
lent_mut x = record { ref_ptr = (0, 0); ghost_name = 0; now = x }

abbrev pub feed_reading : (c : FeedCall) → FeedMet c → FeedRead
feed_reading c m =
    record {
      κs = ([], ([], tt));
      args = (c.bench, (lent c.piece.bytes, (lent_mut c.piece.buffer, tt)));
      result = c.result;
      exit = (c.bench, (lent c.piece.bytes, (lent_mut c.after, tt)));
      learnt = m;
    }

abbrev load_read : (l : LoadCall) → LoadMet l → LoadRead
load_read l m = record { κs = ([], tt); args = (lent l.table, tt); result = l.result; exit = (lent l.table, tt); learnt = m }

-- ---- a list of calls
pub record Chain (b : Bench) (ps : List Piece) : Type 1 where
  pub reads : List FeedRead
  pub given : pieces (feed_calls reads) ≡ ps
  pub linked : Linked b (feed_calls reads)

chain : (b : Bench) (ps : List Piece) → Sound (state_of b) → Chain b ps
unfolding Linked
chain b [] h = record { reads = []; given = refl; linked = tt }
chain b (p ∷ ps) h =
    let g = one b p h in
    let r = chain g.call.result.bench ps g.sound in
    record { reads = feed_reading g.call g.met ∷ r.reads; given = rw (g.piece, r.given); linked = (g.bench, r.linked) }

-- ---- and the call of `load` before them
-- a table that is taken has number 0 and index 0
abbrev Plain : TableAnswer → Type 0
Plain a = a.number ≡ 0 → a ≡ record { number = 0; index = 0 }

plain : (t : List ℕ) → Plain (table_answer t)
unfolding table_answer entries_answer
plain t =
    by_if Plain _ _ _ (λ e z. absurd (omega arith)) (λ e. by_if Plain _ _ _ (λ e z. absurd (omega arith)) (λ e. by_if Plain _ _ _ (λ e z. absurd (omega arith))
    (λ e. by_if Plain _ _ _ (λ e z. absurd (omega arith)) (λ e. by_if Plain _ _ _ (λ e z. absurd (omega arith)) (λ e. by_if Plain _ _ _ (λ e z. absurd (omega arith))
    (λ e. by_if Plain _ _ _ (λ e z. absurd (omega arith)) (λ e z. refl)))))))

abbrev made : TableAnswer → State → Loaded
made a s = record { answer = a; state = s }

load_met : (t : List ℕ) → (load_of t).answer.number ≡ 0 → made (record { number = 0; index = 0 }) (load_of t).state ≡ load_of t
unfolding load_of
load_met t e = ap (λ (a : TableAnswer). made a (load_of t).state) (sym (plain t e))

pub record Calls (table : List ℕ) (ps : List Piece) : Type 1 where
  pub load : LoadRead
  pub given : (load_call load).table ≡ table
  pub taken : (answer_of (load_call load).result.answer).number ≡ 0
  pub fed : Chain (load_call load).result.bench ps

pub calls_exist : (table : List ℕ) → (load_of table).answer.number ≡ 0 → (ps : List Piece) → Calls table ps
calls_exist table e ps =
    let h = load_sound table e in
    let z = sound_back_and_there h in
    let b = bench_of (load_of table).state in
    record {
      load = load_read (record { table = table; result = record { answer = Ok tt; bench = b } }) (rw z (load_met table e));
      given = refl;
      taken = refl;
      fed = chain b ps (rw z h);
    }

-- ---- demand 3 of the worked table, for any pieces
pub loads : (load_of day_table).answer.number ≡ 0
loads = ap (λ (a : TableAnswer). a.number) day_loads

pub day_agrees : (ps : List Piece) (k : ℕ) → let c = calls_exist day_table loads ps in
    AgreedFrom day_table (load_call c.load).result.bench (take k (feed_calls c.fed.reads))
day_agrees ps k =
    let c = calls_exist day_table loads ps in
    let fed = take k (feed_calls c.fed.reads) in
    subst (λ (t : List ℕ). AgreedFrom t (load_call c.load).result.bench fed) c.given (demand_3_calls c.load c.taken c.fed.reads c.fed.linked k)
