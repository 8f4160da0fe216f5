-- Demand 3 at the level of definitions: a list of pieces and the plain keeper. Assumes nothing.
use mathlib.Core.Path.{◌≡◌, refl, ◌∙◌, ap}
use mathlib.Core.Bool.{Bool, true, false}
use mathlib.Core.List.{List, [], ◌∷◌, ◌++◌, map}
use Prim.Native.Nat.{ℕ, ◌+◌, ◌*◌, ◌%◌, ◌<◌, ◌≤◌}
use native.Mathlib.Omega.{arith}
use lib.ListN.{length, get_or, length-append, length-drop, take, drop}
use lib.Seq.{take_at, drop_at}
use lib.Dec.{eqb}
use borrow.Author.Tests.{ltb-false, eqb-true}
use Rattle.model.specs.Limits.{ROWS}
use Rattle.model.specs.Logic.{when◌then◌else◌}
use Rattle.model.specs.State.{State, load_of}
use Rattle.model.specs.Records.{reply_bytes}
use Rattle.model.specs.Steps.{Exchange, run, replies_in}
use Rattle.model.specs.Sound.{Sound}
use Rattle.model.specs.Feed.{Piece, Fed, piece_answer, feed_answer, over, feed_of}
use Rattle.model.specs.Demand3.{feed_all, handed_back, joined, carried_after, refusals, taken_bytes, Agreed, Agrees, Demand3}
use Rattle.model.proofs.Basics.{by_if}
use Rattle.model.proofs.Counting.{at_linked}
use Rattle.model.proofs.Keeping.{room}
use Rattle.model.proofs.SoundTest.{sound_tested}
use Rattle.model.proofs.Running.{run_sound, replies_many, rest_waits, run_joined, holds_run}
use Rattle.model.proofs.Loading.{load_sound, load_holds, load_carry}

-- ---- replies as bytes
pub log_replies : (es : List Exchange) → length (replies_in es) ≡ 4 * length es
unfolding replies_in
log_replies [] = refl
log_replies (e ∷ es) = let i = log_replies es in omega arith

pub log_joined : (a b : List Exchange) → replies_in (a ++ b) ≡ replies_in a ++ replies_in b
unfolding replies_in
log_joined [] b = refl
log_joined (e ∷ a) b = ap (λ (l : List ℕ). reply_bytes e.reply ++ l) (log_joined a b)

-- ---- one piece
-- the list fed from s, and the plain keeper fed the bytes taken, with c bytes carried
record Joined (s : State) (c : ℕ) (ps : List Piece) : Type 0 where
  refused : map (λ (f : Fed). f.number) (feed_all s ps) ≡ refusals c ps
  replies : joined (feed_all s ps) ≡ replies_in (run s (taken_bytes c ps)).log
  state : handed_back s (feed_all s ps) ≡ (run s (taken_bytes c ps)).state

abbrev JoinedFrom : State → List Piece → Type 0
JoinedFrom s ps = Joined s s.carry.used ps

module _ (s : State) (h : Sound s) (p : Piece) where
  answer_plain : feed_answer s p ≡ piece_answer s.carry.used p
  unfolding feed_answer when◌then◌else◌
  answer_plain = rw (sound_tested h)

  -- the bytes of the replies stand at the front of the buffer
  pub piece_taken :
      eqb (piece_answer s.carry.used p) 0 ≡ true
      → feed_of s p ≡ record {
        number = 0;
        replies = length (run s p.bytes).log;
        state = (run s p.bytes).state;
        buffer = over (replies_in (run s p.bytes).log) p.buffer;
      }
  unfolding feed_of when◌then◌else◌
  piece_taken e = rw (answer_plain, e)

  pub piece_refused : eqb (piece_answer s.carry.used p) 0 ≡ false → feed_of s p ≡ record { number = piece_answer s.carry.used p; replies = 0; state = s; buffer = p.buffer }
  unfolding feed_of when◌then◌else◌
  piece_refused e = rw (answer_plain, e)

  joined_taken : (ps : List Piece) → eqb (piece_answer s.carry.used p) 0 ≡ true → JoinedFrom (run s p.bytes).state ps → JoinedFrom s (p ∷ ps)
  unfolding feed_all handed_back joined refusals taken_bytes carried_after when◌then◌else◌
  joined_taken ps e j =
      let w = rest_waits s p.bytes h in
      let n = eqb-true (piece_answer s.carry.used p) 0 e in
      let more = taken_bytes ((s.carry.used + length p.bytes) % 4) ps in
      let f = run_joined s p.bytes more in
      let g = run s p.bytes in
      record {
        refused = rw (piece_taken e, e, n) (ap (λ (l : List ℕ). 0 ∷ l) (rw w at j.refused));
        replies =
            rw (piece_taken e, e, f.1, front, log_joined g.log (run g.state more).log)
            (ap (λ (l : List ℕ). replies_in g.log ++ l) (rw w at j.replies));
        state = rw (piece_taken e, e, f.0) (rw w at j.state);
      }
    where
      front : take (4 * length (run s p.bytes).log) (over (replies_in (run s p.bytes).log) p.buffer) ≡ replies_in (run s p.bytes).log
      front = take_at _ _ _ (log_replies (run s p.bytes).log)

  joined_refused : (ps : List Piece) → eqb (piece_answer s.carry.used p) 0 ≡ false → JoinedFrom s ps → JoinedFrom s (p ∷ ps)
  unfolding feed_all handed_back joined refusals taken_bytes carried_after when◌then◌else◌
  joined_refused ps e j =
      record {
        refused = rw (piece_refused e, e) (ap (λ (l : List ℕ). piece_answer s.carry.used p ∷ l) j.refused);
        replies = rw (piece_refused e, e) j.replies;
        state = rw (piece_refused e, e) j.state;
      }

  joined_more : (ps : List Piece) → ((t : State) → Sound t → JoinedFrom t ps) → JoinedFrom s (p ∷ ps)
  joined_more ps f = go (eqb (piece_answer s.carry.used p) 0) refl
    where
      go : (x : Bool) → eqb (piece_answer s.carry.used p) 0 ≡ x → JoinedFrom s (p ∷ ps)
      go true e = joined_taken ps e (f (run s p.bytes).state (run_sound s p.bytes h))
      go false e = joined_refused ps e (f s h)

-- a piece leads from a sound state to a sound one, taken or not
pub fed_sound : (s : State) (p : Piece) → Sound s → Sound (feed_of s p).state
unfolding feed_of
fed_sound s p h = by_if (λ (f : Fed). Sound f.state) _ _ _ (λ e. run_sound s p.bytes h) (λ e. h)

-- ---- the buffer
-- its length stays, and so do the bytes past the replies, whether the piece is taken or not
room_taken : (s : State) → Sound s → (p : Piece) → feed_answer s p ≡ 0 → 4 * length (run s p.bytes).log ≤ length p.buffer
unfolding feed_answer piece_answer
room_taken s h p =
    by_if Room _ _ _ (λ e z. absurd (omega arith))
    (λ e. by_if Room _ _ _ (λ e z. absurd (omega arith))
    (λ e. by_if Room _ _ _ (λ e z. absurd (omega arith))
    (λ e z. rw (replies_many s p.bytes h) (ltb-false _ _ e))))
  where
    Room : ℕ → Type 0
    Room x = x ≡ 0 → 4 * length (run s p.bytes).log ≤ length p.buffer

pub buffer_length : (s : State) → Sound s → (p : Piece) → length (feed_of s p).buffer ≡ length p.buffer
unfolding feed_of
buffer_length s h p =
    by_if (λ (f : Fed). length f.buffer ≡ length p.buffer) _ _ _
    (λ e.
    let l = room_taken s h p (eqb-true _ _ e) in
    let b = log_replies (run s p.bytes).log in
    simp (length-append, length-drop) (omega arith))
    (λ e. refl)

pub buffer_rest : (s : State) (p : Piece) → drop (4 * (feed_of s p).replies) (feed_of s p).buffer ≡ drop (4 * (feed_of s p).replies) p.buffer
unfolding feed_of
buffer_rest s p =
    by_if (λ (f : Fed). drop (4 * f.replies) f.buffer ≡ drop (4 * f.replies) p.buffer) _ _ _
    (λ e. let b = log_replies (run s p.bytes).log in drop_at (replies_in (run s p.bytes).log) _ _ b ∙ ap (λ (k : ℕ). drop k p.buffer) b)
    (λ e. refl)

-- ---- the whole list
pieces_joined : (s : State) (ps : List Piece) → Sound s → JoinedFrom s ps
unfolding feed_all handed_back joined refusals taken_bytes run replies_in
pieces_joined s [] h = record { refused = refl; replies = refl; state = refl }
pieces_joined s (p ∷ ps) h = joined_more s h p ps (λ t g. pieces_joined t ps g)

-- from every sound state
pub agrees : (s : State) (ps : List Piece) → Sound s → Agrees s ps
agrees s ps h =
    let j = pieces_joined s ps h in
    let e = j.state in
    let fed = taken_bytes s.carry.used ps in
    let g = run_sound s fed h in
    record {
      refused = j.refused;
      replies = j.replies;
      state = e;
      supply = rw e g.kept.supply;
      uses =
          λ q l.
          let low : q < ROWS = (let r = room (run s fed).state g.kept in let y = rw e at l in omega arith) in
          let k = ap (λ (x : List ℕ). get_or x q 0) g.kept.linked ∙ at_linked (run s fed).state.wiring (run s fed).state.devices.status q low in
          rw e (omega (arith, holds_run s fed q h, k));
    }

-- of any list that gave what the definition gives
pub agreed_as : (s z : State) (fs : List Fed) (ps : List Piece) → Sound s → fs ≡ feed_all s ps → handed_back s fs ≡ z → Agreed s z fs ps
agreed_as s z fs ps h f e = rw (← e, f) (agrees s ps h)

-- demand 3
pub demand_3 : (table : List ℕ) (ps : List Piece) → (load_of table).answer.number ≡ 0 → Demand3 table ps
demand_3 table ps e =
    record {
      fresh = record { carried = load_carry table e; holds = load_holds table e };
      agrees = λ k. agrees (load_of table).state (take k ps) (load_sound table e);
    }
