-- What a piece is answered: its number from the test and the lengths, and all of it from what its records lead to. Assumes nothing.
use mathlib.Core.Path.{◌≡◌, refl, sym, ◌∙◌, ap, subst}
use mathlib.Core.Bool.{true, false}
use mathlib.Core.List.{List, ◌++◌}
use Prim.Native.Nat.{ℕ, ◌+◌, ◌*◌, ◌/◌, ◌%◌, ◌<◌, ◌≤◌}
use native.Mathlib.Omega.{arith}
use lib.ListN.{length, take}
use lib.Dec.{eqb}
use borrow.Author.Tests.{lt-ltb, le-ltb}
use Rattle.model.specs.Limits.{MAXPIECE}
use Rattle.model.specs.Logic.{when◌then◌else◌}
use Rattle.model.specs.State.{State, with_carry}
use Rattle.model.specs.Steps.{Run, none_wait, run, replies_in}
use Rattle.model.specs.Sound.{Sound}
use Rattle.model.specs.SoundTest.{carried_test, sound_test}
use Rattle.model.specs.Feed.{Piece, piece_answer, feed_answer, over, feed_of}
use Rattle.model.proofs.Logic.{tests}
use Rattle.model.proofs.SoundTest.{sound_iff}
use Rattle.model.proofs.Running.{sound_carry, nothing_carried, replies_many}
use Rattle.memory.specs.Layout.{BYTES, WORDS, state_in}
use Rattle.memory.proofs.Inverse.{shaped_in}
use Rattle.links.specs.Firsts.{first_links}
use Rattle.record_loop.specs.Runs.{rest_in, Between, Led}
use Rattle.record_loop.proofs.Joining.{joined_length, over_front}
use Rattle.record_loop.proofs.Looping.{carried_first}

-- ---- from the soundness test
pub few_carried : (s : State) → sound_test s ≡ true → s.carry.used ≤ 3
unfolding sound_test carried_test
few_carried s e = (simp tests at e).1.0.0

pub sound_in : (bytes words : List ℕ) → length bytes ≡ BYTES → length words ≡ WORDS
    → sound_test (state_in bytes words) ≡ true → Sound (state_in bytes words)
sound_in bytes words a b t = (sound_iff _ (shaped_in bytes words a b)).0 t

-- ---- the number of a piece
abbrev given : List ℕ → List ℕ → Piece
given piece buffer = record { bytes = piece; buffer = buffer }

module _ (s : State) (piece buffer : List ℕ) where
  pub unsound_number : sound_test s ≡ false → feed_answer s (given piece buffer) ≡ 21
  unfolding feed_answer when◌then◌else◌
  unsound_number e = rw e

  module _ (t : sound_test s ≡ true) where
    pub long_number : MAXPIECE < length piece → feed_answer s (given piece buffer) ≡ 22
    unfolding feed_answer piece_answer when◌then◌else◌
    long_number l = rw (t, lt-ltb MAXPIECE (length piece) l)

    module _ {used : ℕ} (u : used ≡ s.carry.used) (short : length piece ≤ MAXPIECE) where
      pub room_number : length buffer < 4 * ((used + length piece) / 4) → feed_answer s (given piece buffer) ≡ 23
      unfolding feed_answer piece_answer when◌then◌else◌
      room_number r = rw (t, le-ltb MAXPIECE (length piece) short, ← u, lt-ltb (length buffer) (4 * ((used + length piece) / 4)) r)

      pub taken_number : 4 * ((used + length piece) / 4) ≤ length buffer → feed_answer s (given piece buffer) ≡ 0
      unfolding feed_answer piece_answer when◌then◌else◌
      taken_number r = rw (t, le-ltb MAXPIECE (length piece) short, ← u, le-ltb (length buffer) (4 * ((used + length piece) / 4)) r)

-- ---- all of a piece
module _ (s : State) (p : Piece) where
  -- a refused piece leaves the bench and the buffer
  pub fed_refused : (number : ℕ) → eqb number 0 ≡ false → feed_answer s p ≡ number
      → feed_of s p ≡ record { number = number; replies = 0; state = s; buffer = p.buffer }
  unfolding feed_of when◌then◌else◌
  fed_refused number ne e = rw (e, ne)

  pub fed_taken : feed_answer s p ≡ 0 → Sound s → {used : ℕ} → used ≡ s.carry.used → {t : State} {after : List ℕ}
      → t ≡ (run s p.bytes).state
      → after ≡ over (replies_in (run s p.bytes).log) p.buffer
      → feed_of s p ≡ record { number = 0; replies = (used + length p.bytes) / 4; state = t; buffer = after }
  unfolding feed_of when◌then◌else◌
  fed_taken e h {used} u f g =
      let many = replies_many s p.bytes h ∙ ap (λ (n : ℕ). (n + length p.bytes) / 4) (sym u) in
      rw e (λ i. record { number = 0; replies = many i; state = sym f i; buffer = sym g i })

-- ---- a piece that is taken
-- the records start from the state in which no byte waits
between_start : {first : List ℕ} (s : State) → Sound s → first ≡ first_links s.wiring → Between first (none_wait s)
between_start s h e = record { sound = sound_carry h _ _ nothing_carried; none = refl; index = e }

-- what the joined bytes lead to where none wait is what the piece leads to
module _ (held : List ℕ) (used : ℕ) (piece before first : List ℕ) (t : State) (after : List ℕ) where
  abbrev w : List ℕ
  w = take used held ++ piece

  abbrev Leads : State → Type 0
  Leads z =
      Sound z → Led first (none_wait z) w before t after
      → (with_carry t (rest_in w (4 * ((used + length piece) / 4))) ((used + length piece) % 4) ≡ (run z piece).state)
      × (after ≡ over (replies_in (run z piece).log) before)

  leads_carrying : (s : State) → Leads (with_carry s held used)
  leads_carrying s h l =
      let few = h.carried.few in
      let rows = h.carried.long in
      let n = joined_length held piece used (omega arith) in
      let g = carried_first (with_carry s held used) piece h.carried in
      let state = rw n at l.state in
      let front = over_front (replies_in (run (none_wait s) w).log) before in
      (sym (ap (λ (x : Run). x.state) g ∙ state), l.buffer ∙ front ∙ ap (λ (x : Run). over (replies_in x.log) before) (sym g))

  joined_leads : (s : State) → held ≡ s.carry.bytes → used ≡ s.carry.used → Leads s
  joined_leads s e f =
      let same : with_carry s held used ≡ s = λ i. with_carry s (e i) (f i) in
      subst Leads same (leads_carrying s)

-- from s the carried bytes are cleared (a); then the joined bytes lead to t; then the bytes left over are carried (z)
pub took : (s : State) → Sound s → {held : List ℕ} {used : ℕ} → held ≡ s.carry.bytes → used ≡ s.carry.used
    → (piece : List ℕ) {before first after left : List ℕ} {a t z : State}
    → first ≡ first_links s.wiring
    → a ≡ none_wait s
    → (Between first a → Led first a (take used held ++ piece) before t after)
    → left ≡ rest_in (take used held ++ piece) (4 * ((used + length piece) / 4))
    → (Between first t → z ≡ with_carry t left ((used + length piece) % 4))
    → (z ≡ (run s piece).state) × (after ≡ over (replies_in (run s piece).log) before)
took s h {held} {used} e f piece {before} {first} {after} {left} {a} {t} {z} index cleared led rest carried =
    let l = subst (λ (x : State). Between first x → Led first x (take used held ++ piece) before t after) cleared led (between_start s h index) in
    let (state, buffer) = joined_leads held used piece before first t after s e f h l in
    (carried l.between ∙ ap (λ (x : List ℕ). with_carry t x ((used + length piece) % 4)) rest ∙ state, buffer)
