-- The loop over a piece: after k records the rest of the bytes leads where all of them lead. Assumes nothing.
use mathlib.Core.Path.{◌≡◌, refl, sym, ◌∙◌, ap, subst}
use mathlib.Core.List.{List, [], ◌∷◌, ◌++◌}
use Prim.Native.Nat.{ℕ, zero, suc, ◌+◌, ◌*◌, ◌/◌, ◌%◌, ◌<◌, ◌≤◌}
use native.Mathlib.Omega.{arith}
use native.Mathlib.Nat.{add-zero}
use lib.ListN.{length, get_or, take, drop, length-drop}
use lib.Seq.{get_or-drop}
use Rattle.model.specs.Logic.{when◌then◌else◌}
use Rattle.model.specs.State.{State, with_carry}
use Rattle.model.specs.Records.{Rec, Reply, Done, record_of, reply_bytes}
use Rattle.model.specs.Steps.{Run, none_wait, record_step, byte_step, run, replies_in}
use Rattle.model.specs.Sound.{Carried}
use Rattle.model.proofs.Setters.{carry_kept}
use Rattle.model.proofs.Records.{record_sound}
use Rattle.model.proofs.Running.{run_joined, replies_many}
use Rattle.model.proofs.Pieces.{log_replies, log_joined}
use Rattle.links.specs.Firsts.{Indexed}
use Rattle.links.proofs.Keeping.{sound_indexed, record_index}
use Rattle.record_loop.specs.Runs.{record_in, four_in, rest_in, over_at, nothing, Between, Led, Reached, Turning}
use Rattle.record_loop.proofs.Joining.{next_four, over_length, over_more, over_none, over_part}

-- ---- the carried bytes, fed again where none wait
held : (s : State) (bytes : List ℕ) (used : ℕ) → Carried (record { bytes = bytes; used = used })
    → run (none_wait s) (take used bytes) ≡ record { state = with_carry s bytes used; log = [] }
unfolding run byte_step when◌then◌else◌
held s (x ∷ y ∷ z ∷ []) zero f = rw (f.unused 0 (omega arith), f.unused 1 (omega arith), f.unused 2 (omega arith))
held s (x ∷ y ∷ z ∷ []) (suc zero) f = rw (f.unused 1 (omega arith), f.unused 2 (omega arith))
held s (x ∷ y ∷ z ∷ []) (suc (suc zero)) f = rw (f.unused 2 (omega arith))
held s (x ∷ y ∷ z ∷ []) (suc (suc (suc zero))) f = refl
held s (x ∷ y ∷ z ∷ []) (suc (suc (suc (suc u)))) f = let h = f.few in absurd (omega arith)
held s [] used f = let h = f.long in absurd (omega arith)
held s (x ∷ []) used f = let h = f.long in absurd (omega arith)
held s (x ∷ y ∷ []) used f = let h = f.long in absurd (omega arith)
held s (x ∷ y ∷ z ∷ a ∷ w) used f = let h = f.long in absurd (omega arith)

-- a piece after carried bytes leads where the joined bytes lead
pub carried_first : (s : State) (piece : List ℕ) → Carried s.carry
    → run s piece ≡ run (none_wait s) (take s.carry.used s.carry.bytes ++ piece)
carried_first s piece f =
    let j = run_joined (none_wait s) (take s.carry.used s.carry.bytes) piece in
    let e = held s s.carry.bytes s.carry.used f in
    sym (whole (run (none_wait s) (take s.carry.used s.carry.bytes ++ piece)) _ (rw e at j.0) (rw e at j.1))
  where
    whole : (a b : Run) → a.state ≡ b.state → a.log ≡ b.log → a ≡ b
    whole a b e f = λ i. record { state = e i; log = f i }

-- ---- four bytes are one record, and fewer only wait
four_bytes : (s : State) (a b c d : ℕ) (w : List ℕ) → let f = record_step (none_wait s) (record_of a b c d) in
    run (none_wait s) (a ∷ b ∷ c ∷ d ∷ w)
    ≡ record { state = (run f.state w).state; log = record { asked = record_of a b c d; reply = f.reply } ∷ (run f.state w).log }
unfolding run byte_step when◌then◌else◌
four_bytes s a b c d w = refl

few_bytes : (s : State) (w : List ℕ) → length w < 4 → run (none_wait s) w ≡ record { state = with_carry s (rest_in w 0) (length w); log = [] }
unfolding run byte_step when◌then◌else◌
few_bytes s [] h = refl
few_bytes s (a ∷ []) h = refl
few_bytes s (a ∷ b ∷ []) h = refl
few_bytes s (a ∷ b ∷ c ∷ []) h = refl
few_bytes s (a ∷ b ∷ c ∷ d ∷ w) h = absurd (omega arith)

-- ---- a state in which no byte waits
module _ (s : State) (none : s.carry ≡ nothing) (w : List ℕ) (i : ℕ) where
  waits : none_wait s ≡ s
  waits = λ j. record { wiring = s.wiring; devices = s.devices; callback = s.callback; carry = sym none j }

  -- the record at byte i leads from s to t, then the rest of the bytes
  abbrev Goes : State → Reply → State → Type 0
  Goes t r z = record_step z (record_in w i) ≡ record { state = t; reply = r }
      → run z (drop i w) ≡ record { state = (run t (drop (i + 4) w)).state; log = record { asked = record_in w i; reply = r } ∷ (run t (drop (i + 4) w)).log }

  next_record : i + 4 ≤ length w → {t : State} {r : Reply} → Goes t r s
  unfolding record_in
  next_record h {t} {r} =
      subst (Goes t r) waits
      (λ e. rw (next_four w i h) (four_bytes s (get_or w i 0) (get_or w (i + 1) 0) (get_or w (i + 2) 0) (get_or w (i + 3) 0) (drop (i + 4) w) ∙ rw e))

  last_few : length w < i + 4 → run s (drop i w) ≡ record { state = with_carry s (rest_in w i) (length (drop i w)); log = [] }
  last_few h =
      let l = length-drop i w in
      let f = few_bytes s (drop i w) (omega arith) in
      subst (λ (z : State). run z (drop i w) ≡ record { state = with_carry s (rest_in w i) (length (drop i w)); log = [] }) waits
      (rw (get_or-drop i w 0 0, get_or-drop i w 1 0, get_or-drop i w 2 0, add-zero i) at f)

-- ---- from record to record
between_more : {first : List ℕ} {s : State} → Between first s → (r : Rec) → Between first (record_step s r).state
between_more {first} {s} b r = record { sound = record_sound b.sound r; none = carry_kept s r ∙ b.none; index = record_index s first b.index r }

pub reached_start : {first : List ℕ} {s : State} {w before : List ℕ} → Between first s → Reached first s w before (4 * 0) s before
reached_start b = record { between = b; state = refl; buffer = refl }

-- no record is answered yet
pub turning_start : {first w before : List ℕ} {s : State} → 4 * (length w / 4) ≤ length before
    → Turning first w before (length w / 4) 0 s s before
turning_start room = record { room = room; many = refl; within = omega arith; long = refl; reached = reached_start }

module _ {first w before : List ℕ} {count k : ℕ} {s₀ s : State} {out : List ℕ} (t : Turning first w before count k s₀ s out) where
  pub whole_record : k < count → 4 * k + 4 ≤ length w
  whole_record h = let e = t.many in omega arith

  pub reply_fits : k < count → 4 * k + 4 ≤ length out
  reply_fits h = let e = t.many in let r = t.room in let l = t.long in omega arith

  -- one record more
  pub turning_more : k < count → {s₁ : State} {r : Reply} {out₁ : List ℕ}
      → (Indexed s first → record_step s (record_in w (4 * k)) ≡ record { state = s₁; reply = r })
      → out₁ ≡ over_at (4 * k) (reply_bytes r) out
      → Turning first w before count (k + 1) s₀ s₁ out₁
  unfolding replies_in
  turning_more h {s₁} {r} {out₁} f e =
      let n = whole_record h in
      let fits = reply_fits h in
      let next : 4 * (k + 1) ≡ 4 * k + 4 = omega arith in
      record {
        room = t.room;
        many = t.many;
        within = omega arith;
        long = rw e (over_length out (4 * k) (reply_bytes r) refl fits ∙ t.long);
        reached = λ z.
            let m = t.reached z in
            let b = m.between in
            let q = f (sound_indexed b.sound b.index) in
            let g = next_record s b.none w (4 * k) (omega arith) q in
            record {
              between = subst (Between first) (ap (λ (d : Done). d.state) q) (between_more b (record_in w (4 * k)));
              state = rw next (rw g at m.state);
              buffer = rw (next, e) (over_more out (4 * k) (reply_bytes r) refl fits (replies_in (run s₁ (drop (4 * k + 4) w)).log) ∙ rw g at m.buffer);
            };
      }

  -- after the last: what is left over, and the replies
  pub turning_end : count ≤ k → Between first s₀ → Led first s₀ w before s out
  unfolding replies_in
  turning_end h z =
      let m = t.many in
      let i = t.within in
      let a : k ≡ length w / 4 = omega arith in
      let b : length (drop (4 * k) w) ≡ length w % 4 = rw (length-drop (4 * k) w) (omega arith) in
      let g = t.reached z in
      let f = last_few s g.between.none w (4 * k) (omega arith) in
      record { between = g.between; state = rw (← b, ← a) (sym (rw f at g.state)); buffer = sym (over_none (4 * k) out) ∙ rw f at g.buffer }

-- ---- the first record by itself, then the others
module _ {first : List ℕ} {s t : State} (w before : List ℕ) {out : List ℕ} (four : 4 ≤ length w) (room : 4 ≤ length before) (z : Between first s)
    (head : Led first s (four_in w) before t out) where
  split : w ≡ four_in w ++ drop 4 w
  split = next_four w 0 four

  stays : (run s (four_in w)).state ≡ t
  stays = head.state ∙ waits t head.between.none w 0

  one_reply : length (replies_in (run s (four_in w)).log) ≡ 4
  one_reply =
      let n = replies_many s (four_in w) z.sound in
      let u : s.carry.used ≡ 0 = ap (λ c. c.used) z.none in
      log_replies (run s (four_in w)).log ∙ rw (n, u)

  -- the rest leads where the whole leads
  same_state : (run s w).state ≡ (run t (drop 4 w)).state
  same_state = subst (λ (x : List ℕ). (run s x).state ≡ (run t (drop 4 w)).state) (sym split) (rw stays at (run_joined s (four_in w) (drop 4 w)).0)

  -- and its replies stand after the first
  same_replies : over_at 4 (replies_in (run t (drop 4 w)).log) out ≡ over_at 0 (replies_in (run s w).log) before
  same_replies =
      let more = replies_in (run t (drop 4 w)).log in
      let one = replies_in (run s (four_in w)).log in
      let log : (run s (four_in w ++ drop 4 w)).log ≡ (run s (four_in w)).log ++ (run t (drop 4 w)).log = rw stays at (run_joined s (four_in w) (drop 4 w)).1 in
      rw head.buffer (over_more before 0 one one_reply room more)
      ∙ subst (λ (x : List ℕ). over_at 0 (one ++ more) before ≡ over_at 0 (replies_in (run s x).log) before) (sym split) (rw (log, log_joined))

  left_over : rest_in (drop 4 w) (4 * (length (drop 4 w) / 4)) ≡ rest_in w (4 * (length w / 4))
  left_over =
      let l = length-drop 4 w in
      let i = 4 * (length (drop 4 w) / 4) in
      let e : 4 + i ≡ 4 * (length w / 4) = omega arith in
      let place : (d : ℕ) → 4 + (i + d) ≡ 4 * (length w / 4) + d = λ d. omega arith in
      let at : (d : ℕ) → get_or (drop 4 w) (i + d) 0 ≡ get_or w (4 * (length w / 4) + d) 0 = λ d. get_or-drop 4 w (i + d) 0 ∙ rw (place d) in
      rw (get_or-drop 4 w i 0, e, at 1, at 2)

  -- the others lead on from t, their replies in the part of the buffer after the first
  pub led_joined : {u : State} {after : List ℕ} → Led first t (drop 4 w) (drop 4 out) u after → Led first s w before u (take 4 out ++ after)
  led_joined {u} {after} rest =
      let l = length-drop 4 w in
      let e : length (drop 4 w) % 4 ≡ length w % 4 = omega arith in
      record {
        between = rest.between;
        state = same_state ∙ rest.state ∙ rw (left_over, e);
        buffer = rw rest.buffer (over_part 4 (replies_in (run t (drop 4 w)).log) out ∙ same_replies);
      }
