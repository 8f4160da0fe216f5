-- What the calls give, exit by exit. A bench that is not sound is refused like the empty one, so it does not matter which of the two is fed or
-- asked. Assumes nothing.
use mathlib.Core.Path.{◌≡◌, refl, sym, ap, ◌∙◌}
use mathlib.Core.Bool.{Bool, true, false}
use mathlib.Core.List.{List}
use Prim.Native.Nat.{ℕ, ◌+◌, ◌*◌, ◌%◌, ◌/◌, ◌≤◌}
use native.Mathlib.Omega.{arith}
use native.Mathlib.Decide.{dec_lt}
use lib.ListN.{length}
use lib.IntN.{ℤ, pos, neg_ℤ}
use borrow.Author.Tests.{ne_eqb}
use Rattle.model.specs.Logic.{when◌then◌else◌}
use Rattle.model.specs.State.{State, Loaded, empty_state, load_of}
use Rattle.model.specs.Sound.{Sound}
use Rattle.model.specs.SoundTest.{sound_test}
use Rattle.model.specs.Feed.{Piece, Fed, feed_answer, feed_of}
use Rattle.model.specs.Questions.{Told}
use Rattle.model.proofs.SoundTest.{sound_tested}
use Rattle.model.proofs.Loading.{load_sound, empty_unsound}
use Rattle.model.proofs.Pieces.{fed_sound}
use Rattle.saved_form.specs.Form.{FORM}
use Rattle.saved_form.specs.Saving.{Saved, save_of}
use Rattle.saved_form.specs.Restoring.{judged_of}
use Rattle.c_calls.specs.Numbers.{RANGE, answered, device_of}
use Rattle.c_calls.specs.Bytes.{bench_in}
use Rattle.c_calls.specs.Questions.{ask}
use Rattle.c_calls.specs.Calls.{LoadGave, FeedGave, load_bytes, feed_bytes, ask_bytes}
use Rattle.c_calls.proofs.Answers.{answered_code}
use Rattle.c_calls.proofs.Asking.{refusal, Small, ask_fair}
use Rattle.c_calls.proofs.Beginning.{bench_short, bench_sound}

-- ---- load
abbrev pub load_gave : ℤ → List ℕ → LoadGave
load_gave result state = record { result = result; state = state }

module _ (table state : List ℕ) {l : Loaded} (gave : l ≡ load_of table) where
  -- by its own number
  pub load_refused : (l.answer.number ≡ 0 → ⊥) → load_gave (neg_ℤ (pos l.answer.number)) state ≡ load_bytes table state
  unfolding load_bytes answered when◌then◌else◌
  load_refused ne = rw (← gave, ne_eqb _ _ ne)

  -- by what saving answers
  pub load_saved : {w : Saved} → l.answer.number ≡ 0 → w ≡ save_of l.state state → load_gave (answered w.number 0) w.buffer ≡ load_bytes table state
  unfolding load_bytes when◌then◌else◌
  load_saved e f = rw (← gave, e, f)

-- a table that is taken leaves a sound bench
pub loaded_sound : (table : List ℕ) {l : Loaded} → l ≡ load_of table → l.answer.number ≡ 0 → sound_test l.state ≡ true
loaded_sound table gave e = rw gave (sound_tested (load_sound table (rw gave at e)))

-- ---- a bench, judged
module _ (s : State) where
  judged_same : sound_test s ≡ true → (judged_of s).state ≡ s
  unfolding judged_of when◌then◌else◌
  judged_same e = rw e

  judged_none : sound_test s ≡ false → (judged_of s).state ≡ empty_state
  unfolding judged_of when◌then◌else◌
  judged_none e = rw e

  fed_unsound : sound_test s ≡ false → (p : Piece) → feed_of s p ≡ record { number = 21; replies = 0; state = s; buffer = p.buffer }
  unfolding feed_of feed_answer when◌then◌else◌
  fed_unsound e p = rw e

-- ---- feed
abbrev pub feed_gave : ℤ → List ℕ → List ℕ → FeedGave
feed_gave result state replies = record { result = result; state = state; replies = replies }

-- for the bench that the bytes begin with
module _ (state : List ℕ) (p : Piece) where
  fed_refused : ((feed_of (bench_in state) p).number ≡ 0 → ⊥)
      → feed_gave (neg_ℤ (pos (feed_of (bench_in state) p).number)) state (feed_of (bench_in state) p).buffer ≡ feed_bytes state p
  unfolding feed_bytes answered when◌then◌else◌
  fed_refused ne = rw (ne_eqb _ _ ne)

  fed_taken : (feed_of (bench_in state) p).number ≡ 0
      → feed_gave (pos (feed_of (bench_in state) p).replies) (save_of (feed_of (bench_in state) p).state state).buffer (feed_of (bench_in state) p).buffer ≡ feed_bytes state p
  unfolding feed_bytes answered when◌then◌else◌
  fed_taken e = rw e

-- for any bench that is it once it is judged: both give the same, but for the bench that a refusal hands back
record Alike (f g : Fed) : Type 0 where
  number : f.number ≡ g.number
  replies : f.replies ≡ g.replies
  buffer : f.buffer ≡ g.buffer
  state : f.number ≡ 0 → f.state ≡ g.state

alike : (s z : State) (p : Piece) → (judged_of s).state ≡ z → Alike (feed_of s p) (feed_of z p)
alike s z p is = go (sound_test s) refl
  where
    same : {f g : Fed} → f ≡ g → Alike f g
    same e = record { number = ap (λ (x : Fed). x.number) e; replies = ap (λ (x : Fed). x.replies) e; buffer = ap (λ (x : Fed). x.buffer) e; state = λ n. ap (λ (x : Fed). x.state) e }

    go : (b : Bool) → sound_test s ≡ b → Alike (feed_of s p) (feed_of z p)
    go true e = same (ap (λ (x : State). feed_of x p) (sym (judged_same s e) ∙ is))
    go false e =
        let y : z ≡ empty_state = sym is ∙ judged_none s e in
        rw (y, fed_unsound s e p, fed_unsound empty_state empty_unsound p) (record { number = refl; replies = refl; buffer = refl; state = λ n. absurd (omega arith) })

module _ (state : List ℕ) (p : Piece) (s : State) (is : (judged_of s).state ≡ bench_in state) {f : Fed} (gave : f ≡ feed_of s p) where
  pub feed_refused : (f.number ≡ 0 → ⊥) → feed_gave (neg_ℤ (pos f.number)) state f.buffer ≡ feed_bytes state p
  feed_refused ne =
      let a = alike s (bench_in state) p is in
      let same : f.number ≡ (feed_of (bench_in state) p).number = ap (λ (x : Fed). x.number) gave ∙ a.number in
      rw (gave, a.number, a.buffer) (fed_refused state p (λ n. ne (same ∙ n)))

  -- with the bytes that saving leaves
  pub feed_taken : {w : Saved} → f.number ≡ 0 → w ≡ save_of f.state state → feed_gave (pos f.replies) w.buffer f.buffer ≡ feed_bytes state p
  feed_taken e written =
      let a = alike s (bench_in state) p is in
      let n : (feed_of s p).number ≡ 0 = sym (ap (λ (x : Fed). x.number) gave) ∙ e in
      rw (written, gave, a.replies, a.buffer, a.state n) (fed_taken state p (sym a.number ∙ n))

  -- a piece is taken only by a sound bench, which it leaves sound
  pub taken_sound : f.number ≡ 0 → sound_test f.state ≡ true
  taken_sound e = go (sound_test s) refl
    where
      go : (b : Bool) → sound_test s ≡ b → sound_test f.state ≡ true
      go true z =
          let same : s ≡ bench_in state = sym (judged_same s z) ∙ is in
          rw (gave, same) (sound_tested (fed_sound (bench_in state) p (bench_sound state (rw same at z))))
      go false z = let y = gave ∙ fed_unsound s z p in let n = ap (λ (x : Fed). x.number) y in absurd (omega arith)

  -- and bytes that begin with one are many enough
  pub taken_room : f.number ≡ 0 → FORM ≤ length state
  taken_room e =
      elim (dec_lt (length state) FORM) [
        | yes l ↦
            let b : (judged_of s).state ≡ empty_state = is ∙ bench_short state l in
            let n = sym (ap (λ (x : Fed). x.number) gave ∙ (alike s empty_state p b).number) ∙ e in
            let y = ap (λ (x : Fed). x.number) (fed_unsound empty_state empty_unsound p) in
            absurd (omega arith)
        | no g ↦ omega arith
      ]

-- ---- ask
-- a number and 256 times a value, as a question's answer comes
abbrev coded : Told → ℤ
coded t = let c = t.number + 256 * t.value in answered (c % 256) (c / 256 % RANGE)

coded_small : (t : Told) → Small t → coded t ≡ answered t.number t.value
coded_small t h = answered_code t.number t.value h.number h.value

small_21 : Small (refusal 21)
small_21 = record { number = omega arith; value = omega arith }

module _ (state : List ℕ) (s : State) (is : (judged_of s).state ≡ bench_in state) (question part second : ℕ) where
  asked_unsound : sound_test s ≡ false → coded (ask question s (device_of part) (device_of second)) ≡ ask_bytes state question part second
  unfolding ask_bytes
  asked_unsound e =
      let f = ask_fair question in
      let b : bench_in state ≡ empty_state = sym is ∙ judged_none s e in
      rw (f.unsound s (device_of part) (device_of second) e, b, f.unsound empty_state part second empty_unsound) (coded_small (refusal 21) small_21)

  asked_sound : sound_test s ≡ true → coded (ask question s (device_of part) (device_of second)) ≡ ask_bytes state question part second
  unfolding ask_bytes
  asked_sound e =
      let f = ask_fair question in
      let b : s ≡ bench_in state = sym (judged_same s e) ∙ is in
      let h : Sound (bench_in state) = bench_sound state (rw b at e) in
      rw (b, f.device (bench_in state) part second h) (coded_small _ (f.small (bench_in state) part second h))

  pub asked_as : coded (ask question s (device_of part) (device_of second)) ≡ ask_bytes state question part second
  asked_as = go (sound_test s) refl
    where
      go : (b : Bool) → sound_test s ≡ b → coded (ask question s (device_of part) (device_of second)) ≡ ask_bytes state question part second
      go true e = asked_sound e
      go false e = asked_unsound e
