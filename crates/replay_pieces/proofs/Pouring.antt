-- One more piece after those fed, and demand 3 for all of them. Assumes nothing.
use Rattle.std.proofs.Common.{◌≡◌, ℕ, ◌+◌, ◌%◌, ◌^◌, List, [], ◌∷◌, ◌++◌, length, sym, refl, ap, ◌∙◌, arith, length-append}
use native.Mathlib.Nat.{mod-add-mod}
use Rattle.model.specs.State.{load_of}
use Rattle.model.specs.Steps.{run}
use Rattle.model.specs.Feed.{Piece, Fed}
use Rattle.model.specs.Demand3.{taken_bytes}
use Rattle.keeper_bench.specs.declared.Bench.{Bench}
use Rattle.keeper_bench.specs.Translate.{state_of}
use Rattle.keeper.specs.Calls.{FeedCall, gave, pieces, Linked, last, FeedMet, AllMet, AgreedFrom}
use Rattle.keeper.proofs.Calls.{agreed}
use Rattle.replay_pieces.specs.declared.turn.Progress.{Progress}
use Rattle.replay_pieces.specs.declared.turn.Turn.{Turn}
use Rattle.replay_pieces.specs.Turns.{call_of, Turned}
use Rattle.replay_pieces.specs.Poured.{replied, Poured, Replayed}

-- ---- a list of calls with one more at its end
abbrev and_then : List FeedCall → FeedCall → List FeedCall
and_then cs c = cs ++ (c ∷ [])

linked_then : (b : Bench) (cs : List FeedCall) (c : FeedCall) → Linked b cs → c.bench ≡ last b cs → Linked b (and_then cs c)
unfolding Linked last
linked_then b [] c l e = (e, tt)
linked_then b (d ∷ cs) c l e = (l.0, linked_then d.result.bench cs c l.1 e)

met_then : (cs : List FeedCall) (c : FeedCall) → AllMet cs → FeedMet c → AllMet (and_then cs c)
unfolding AllMet
met_then [] c m e = (e, tt)
met_then (d ∷ cs) c m e = (m.0, met_then cs c m.1 e)

last_then : (b : Bench) (cs : List FeedCall) (c : FeedCall) → last b (and_then cs c) ≡ c.result.bench
unfolding last
last_then b [] c = refl
last_then b (d ∷ cs) c = last_then d.result.bench cs c

replied_then : (cs : List FeedCall) (c : FeedCall) → replied (and_then cs c) ≡ replied cs + (gave c).replies
unfolding replied
replied_then [] c = omega arith
replied_then (d ∷ cs) c = omega (arith, replied_then cs c)

-- ---- what was fed
pub poured_none : (b : Bench) (p : Progress) → p.bench ≡ b → p.pieces ≡ 0 → p.replies ≡ 0 → Poured b p
unfolding Linked AllMet last replied
poured_none b p e y z = record { calls = []; linked = tt; met = tt; bench = sym e; pieces = y; replies = z }

pub poured_more : {b : Bench} {p : Progress} {piece : Piece} {t : Turn} {after : List ℕ} → Poured b p → Turned p piece t after → Poured b t.progress
poured_more {b} {p} {piece} {t} {after} h u =
    let c = call_of p piece t after in
    let more = ap (λ (f : Fed). f.replies) u.met in
    record {
      calls = and_then h.calls c;
      linked = linked_then b h.calls c h.linked (sym h.bench);
      met = met_then h.calls c h.met u.met;
      bench = last_then b h.calls c;
      pieces =
          u.pieces ∙ ap (λ (k : ℕ). (k + 1) % 2 ^ 64) h.pieces ∙ mod-add-mod (length h.calls) (2 ^ 64) 1
          ∙ ap (λ (k : ℕ). k % 2 ^ 64) (sym (length-append h.calls (c ∷ [])));
      replies =
          u.total ∙ ap (λ (k : ℕ). (p.replies + k) % 2 ^ 64) (sym more) ∙ ap (λ (k : ℕ). (k + (gave c).replies) % 2 ^ 64) h.replies
          ∙ mod-add-mod (replied h.calls) (2 ^ 64) (gave c).replies ∙ ap (λ (k : ℕ). k % 2 ^ 64) (sym (replied_then h.calls c));
    }

-- demand 3 for what the program fed: the state and the replies are those of the plain keeper, fed the table and the joined bytes of the pieces
pub replayed_agrees : {table : List ℕ} {p : Progress} (r : Replayed table p) → AgreedFrom table r.load.result.bench r.poured.calls
replayed_agrees r = rw (← r.given) (agreed r.load r.met r.taken r.poured.calls r.poured.linked r.poured.met)

-- so the bench of the last piece, whose state is printed, is the plain keeper's
pub replayed_state : {table : List ℕ} {p : Progress} (r : Replayed table p)
    → state_of p.bench ≡ (run (load_of table).state (taken_bytes (load_of table).state.carry.used (pieces r.poured.calls))).state
replayed_state r = rw (← r.poured.bench) (replayed_agrees r).agreed.state
