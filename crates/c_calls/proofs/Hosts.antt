-- Demand 3 for calls through bytes: as long as the host hands on the bytes of the saved state, they hold the bench that the definitions hand on.
-- Assumes nothing.
use mathlib.Core.Path.{◌≡◌, refl, sym, ap, ◌∙◌}
use mathlib.Core.List.{List, [], ◌∷◌, map}
use Prim.Native.Nat.{ℕ, zero, suc, ◌≤◌}
use native.Mathlib.Omega.{arith}
use lib.IntN.{pos}
use lib.ListN.{length, take, drop, length-take}
use lib.Seq.{take_at}
use borrow.Author.Tests.{le-ltb, eqb-true, eqb-false}
use Rattle.model.specs.Logic.{when◌then◌else◌}
use Rattle.model.specs.State.{State, load_of}
use Rattle.model.specs.Sound.{Sound}
use Rattle.model.specs.Feed.{Piece, Fed, feed_of}
use Rattle.model.specs.Demand3.{feed_all, handed_back, joined}
use Rattle.model.proofs.Basics.{by_if}
use Rattle.model.proofs.SoundTest.{sound_tested}
use Rattle.model.proofs.Loading.{load_sound, load_holds, load_carry}
use Rattle.model.proofs.Pieces.{fed_sound, agreed_as}
use Rattle.saved_form.specs.Form.{FORM, form}
use Rattle.saved_form.specs.Saving.{save_number, save_of}
use Rattle.saved_form.proofs.Laws.{form_long, saved_form}
use Rattle.c_calls.specs.Numbers.{answered, refusal_in, count_in}
use Rattle.c_calls.specs.Calls.{LoadGave, FeedGave, load_bytes, feed_bytes}
use Rattle.c_calls.specs.Hosts.{LoadCall, FeedCall, pieces, LoadMet, AllMet, Linked, last, refusals_in, joined_in, AgreedBytes}
use Rattle.c_calls.proofs.Answers.{answered_given, result_refusal, result_count}
use Rattle.c_calls.proofs.Beginning.{begins}
use Rattle.c_calls.proofs.Refusals.{fed_nothing}

-- ---- bytes that begin with the saved form of a sound bench
pub record Holds (s : State) (bytes : List ℕ) : Type 0 where
  pub sound : Sound s
  pub front : take FORM bytes ≡ form s

room : {s : State} {bytes : List ℕ} → Holds s bytes → FORM ≤ length bytes
room {s} {bytes} h =
    let l = length-take FORM bytes in
    let e = ap length h.front ∙ form_long h.sound in
    omega arith

-- a saving that is not refused leaves such bytes
saved_holds : {s : State} (bytes : List ℕ) → Sound s → (save_of s bytes).number ≡ 0 → Holds s (save_of s bytes).buffer
saved_holds {s} bytes h e =
    record {
      sound = h;
      front = ap (take FORM) (saved_form s bytes e) ∙ take_at (form s) (drop (length (form s)) bytes) FORM (form_long h);
    }

save_number_lem : {s : State} (bytes : List ℕ) → Sound s → FORM ≤ length bytes → (save_of s bytes).number ≡ 0
unfolding save_of save_number when◌then◌else◌
save_number_lem bytes h l = rw (sound_tested h, le-ltb _ _ l)

-- ---- one piece
record Stepped (f : Fed) (g : FeedGave) : Type 0 where
  refused : refusal_in g.result ≡ f.number
  count : count_in g.result ≡ f.replies
  replies : g.replies ≡ f.buffer
  left : Holds f.state g.state

stepped : {s : State} (bytes : List ℕ) (p : Piece) → Holds s bytes → Stepped (feed_of s p) (feed_bytes bytes p)
unfolding feed_bytes
stepped {s} bytes p h =
    let b = begins bytes h.sound h.front in
    rw b
    (record {
      refused = result_refusal (feed_of s p).number (feed_of s p).replies;
      count = result_count (feed_of s p).number (feed_of s p).replies (λ n. (fed_nothing s p n).replies);
      replies = refl;
      left =
          by_if (Holds (feed_of s p).state) _ _ _
          (λ e. let z = fed_sound s p h.sound in saved_holds bytes z (save_number_lem bytes z (room h)))
          (λ e. let z = (fed_nothing s p (eqb-false _ _ e)).state in rw z h);
    })

-- ---- a list of them
record Went (s : State) (bytes : List ℕ) (cs : List FeedCall) : Type 0 where
  refused : refusals_in cs ≡ map (λ (f : Fed). f.number) (feed_all s (pieces cs))
  replies : joined_in cs ≡ joined (feed_all s (pieces cs))
  left : Holds (handed_back s (feed_all s (pieces cs))) (last bytes cs)

went : (s : State) (bytes : List ℕ) (cs : List FeedCall) → Holds s bytes → Linked bytes cs → AllMet cs → Went s bytes cs
unfolding Linked AllMet last joined_in feed_all handed_back joined
went s bytes [] h l m = record { refused = refl; replies = refl; left = h }
went s bytes (c ∷ cs) h l m =
    let here : Holds s c.state = record { sound = h.sound; front = l.0 ∙ h.front } in
    let one : Stepped (feed_of s c.piece) c.gave = rw m.0 (stepped c.state c.piece here) in
    let rest = went (feed_of s c.piece).state c.gave.state cs one.left l.1 m.1 in
    record {
      refused = rw (one.refused, rest.refused);
      replies = rw (one.count, one.replies, rest.replies);
      left = rest.left;
    }

-- ---- and the call of load before them
record LoadedIn (table : List ℕ) (g : LoadGave) : Type 0 where
  taken : (load_of table).answer.number ≡ 0
  holds : Holds (load_of table).state g.state

result_zero : (number : ℕ) → answered number 0 ≡ pos 0 → number ≡ 0
unfolding refusal_in
result_zero number e = sym (result_refusal number 0) ∙ ap refusal_in e

loaded_in : (table bytes : List ℕ) → (load_bytes table bytes).result ≡ pos 0 → LoadedIn table (load_bytes table bytes)
unfolding load_bytes
loaded_in table bytes =
    by_if P _ _ _
    (λ e z.
    let taken = eqb-true _ _ e in
    let saved = result_zero (save_of (load_of table).state bytes).number z in
    record { taken = taken; holds = saved_holds bytes (load_sound table taken) saved })
    (λ e z. absurd (eqb-false _ _ e (result_zero (load_of table).answer.number z)))
  where
    P : LoadGave → Type 0
    P g = g.result ≡ pos 0 → LoadedIn table g

-- and with room a table that loads is taken
pub load_taken : (table bytes : List ℕ) → (load_of table).answer.number ≡ 0 → FORM ≤ length bytes → (load_bytes table bytes).result ≡ pos 0
unfolding load_bytes when◌then◌else◌
load_taken table bytes e l = rw e (answered_given _ 0 (save_number_lem bytes (load_sound table e) l))

pub agreed : (l : LoadCall) → LoadMet l → l.gave.result ≡ pos 0 → (cs : List FeedCall) → Linked l.gave.state cs → AllMet cs → AgreedBytes l.table l.gave.state cs
agreed l m e cs i n =
    let s = (load_of l.table).state in
    let start : LoadedIn l.table l.gave = rw m (loaded_in l.table l.state (rw m at e)) in
    let g = went s l.gave.state cs start.holds i n in
    let z = begins (last l.gave.state cs) g.left.sound g.left.front in
    record {
      fresh = record { carried = load_carry l.table start.taken; holds = load_holds l.table start.taken };
      agreed = rw (z, g.refused, g.replies) (agreed_as s _ (feed_all s (pieces cs)) (pieces cs) start.holds.sound refl refl);
      saved = g.left.front ∙ ap form (sym z);
    }

-- ---- the first k calls
pub first_linked : (bytes : List ℕ) (cs : List FeedCall) (k : ℕ) → Linked bytes cs → Linked bytes (take k cs)
unfolding Linked
first_linked bytes cs zero l = tt
first_linked bytes [] (suc k) l = tt
first_linked bytes (c ∷ cs) (suc k) l = (l.0, first_linked c.gave.state cs k l.1)

pub first_met : (cs : List FeedCall) (k : ℕ) → AllMet cs → AllMet (take k cs)
unfolding AllMet
first_met cs zero m = tt
first_met [] (suc k) m = tt
first_met (c ∷ cs) (suc k) m = (m.0, first_met cs k m.1)
