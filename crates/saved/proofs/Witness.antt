-- Calls as demand 3 speaks of them exist: from every sound state a saved state restores to it, and a battery change leads through it, read as the
-- theorem reads them. So a list may begin with a `restore` and have a battery change at any place. Assumes nothing.
use mathlib.Core.Path.{◌≡◌, refl, sym, ap}
use mathlib.Core.List.{List, [], ◌∷◌}
use Prim.Native.Nat.{ℕ, ◌≤◌}
use native.Mathlib.Omega.{arith}
use lib.ListN.{length, take, replicate, length-replicate}
use lib.Seq.{take_at}
use borrow.Author.Tests.{le-ltb}
use Rattle.model.specs.Logic.{when◌then◌else◌}
use Rattle.model.specs.State.{State}
use Rattle.model.specs.Sound.{Sound}
use Rattle.model.specs.Feed.{Piece, over}
use Rattle.model.proofs.SoundTest.{sound_tested}
use Rattle.keeper_bench.specs.declared.Bench.{Bench}
use Rattle.keeper_bench.specs.Translate.{state_of, bench_of}
use Rattle.keeper_bench.proofs.Translations.{sound_back_and_there}
use Rattle.keeper.specs.Calls.{pieces}
use Rattle.keeper.proofs.Witness.{lent, lent_mut, one, feed_reading}
use Rattle.std.specs.Prelude.{Ok}
use Rattle.saved_form.specs.Form.{FORM, form}
use Rattle.saved_form.specs.Saving.{save_number, save_of}
use Rattle.saved_form.specs.Restoring.{Restored}
use Rattle.saved_form.proofs.Laws.{form_long, restores}
use Rattle.saved.specs.Calls.{SaveCall, RestoreCall, SaveMet, RestoreMet, bench_at, state_at, Taken, Linked, feeds, AgreedOver}
use Rattle.saved.proofs.Calls.{SaveRead, RestoreRead, StartRead, restore_read, CallRead, feed_read, keep_read, start_of, calls_of, demand_3_kept}

-- ---- a call of `restore` on the form of a sound state
abbrev restore_call_lem : State → RestoreCall
restore_call_lem s = record { bytes = form s; result = record { answer = Ok tt; bench = bench_of s } }

restore_met : (s : State) → Sound s → RestoreMet (restore_call_lem s)
restore_met s h = rw (sound_back_and_there h) (sym (restores h))

abbrev restore_reading : (c : RestoreCall) → RestoreMet c → RestoreRead
restore_reading c m = record { κs = ([], tt); args = (lent c.bytes, tt); result = c.result; exit = (lent c.bytes, tt); learnt = m }

pub record Restores (s : State) : Type 1 where
  pub read : StartRead
  pub taken : Taken (start_of read)
  pub state : state_at (start_of read) ≡ s
  pub bench : state_of (bench_at (start_of read)) ≡ s

pub restore_exists : (s : State) → Sound s → Restores s
unfolding start_of Taken state_at bench_at
restore_exists s h =
    record {
      read = restore_read (restore_reading (restore_call_lem s) (restore_met s h));
      taken = refl;
      state = ap (λ (r : Restored). r.state) (restores h);
      bench = sound_back_and_there h;
    }

-- ---- a battery change: a call of `save` on a bench of a sound state, with just the room that the form needs, and that call of `restore`
save_done : {s : State} → Sound s → (buffer : List ℕ) → FORM ≤ length buffer → save_of s buffer ≡ record { number = 0; buffer = over (form s) buffer }
unfolding save_of save_number when◌then◌else◌
save_done h buffer l = rw (sound_tested h, le-ltb _ _ l)

abbrev room : List ℕ
room = replicate FORM 0

abbrev save_call_lem : Bench → State → SaveCall
save_call_lem b s = record { bench = b; buffer = room; result = Ok tt; after = over (form s) room }

save_met : {s : State} → Sound s → (b : Bench) → state_of b ≡ s → SaveMet (save_call_lem b s)
save_met {s} h b e = let l = length-replicate {A = ℕ} FORM 0 in rw e (sym (save_done h room (omega arith)))

abbrev save_reading : (c : SaveCall) → SaveMet c → SaveRead
save_reading c m =
    record { κs = ([], tt); args = (c.bench, (lent_mut c.buffer, tt)); result = c.result; exit = (c.bench, (lent_mut c.after, tt)); learnt = m }

saved_bytes : {s : State} → Sound s → form s ≡ take FORM (over (form s) room)
saved_bytes {s} h = sym (take_at (form s) _ FORM (form_long h))

-- ---- a list: pieces, and a battery change before each of them and at the end
pub record Chain (b : Bench) (ps : List Piece) : Type 1 where
  pub reads : List CallRead
  pub given : pieces (feeds (calls_of reads)) ≡ ps
  pub linked : Linked b (calls_of reads)

module _ (b : Bench) (h : Sound (state_of b)) where
  abbrev keep : CallRead
  keep = keep_read (save_reading (save_call_lem b (state_of b)) (save_met h b refl)) (restore_reading (restore_call_lem (state_of b)) (restore_met (state_of b) h))

  -- the bench that it hands back
  again : Sound (state_of (bench_of (state_of b)))
  again = rw (sound_back_and_there h) h

pub chain : (b : Bench) (ps : List Piece) → Sound (state_of b) → Chain b ps
unfolding calls_of feeds Linked
chain b [] h = record { reads = keep b h ∷ []; given = refl; linked = (refl, refl, saved_bytes h, tt) }
chain b (p ∷ ps) h =
    let g = one (bench_of (state_of b)) p (again b h) in
    let r = chain g.call.result.bench ps g.sound in
    record {
      reads = keep b h ∷ feed_read (feed_reading g.call g.met) ∷ r.reads;
      given = rw (g.piece, r.given);
      linked = (refl, refl, saved_bytes h, (g.bench, r.linked));
    }

-- ---- so demand 3 says something from every sound state, restored, for any pieces
pub record KeptCalls (s : State) (ps : List Piece) : Type 1 where
  pub start : Restores s
  pub calls : Chain (bench_at (start_of start.read)) ps
  pub agrees : (k : ℕ) → AgreedOver (start_of start.read) (take k (calls_of calls.reads))

pub kept_calls : (s : State) (ps : List Piece) → Sound s → KeptCalls s ps
kept_calls s ps h =
    let l = restore_exists s h in
    let c = chain (bench_at (start_of l.read)) ps (rw l.bench h) in
    record { start = l; calls = c; agrees = λ k. demand_3_kept l.read l.taken c.reads c.linked k }
