-- A refusal writes nothing. Assumes nothing.
use mathlib.Core.Path.{◌≡◌, refl, ◌∙◌}
use mathlib.Core.List.{List}
use Prim.Native.Nat.{ℕ}
use borrow.Author.Tests.{ne_eqb}
use Rattle.model.specs.Logic.{when◌then◌else◌}
use Rattle.model.specs.State.{State, load_of}
use Rattle.model.specs.Feed.{Piece, Fed, feed_of}
use Rattle.model.proofs.Basics.{by_if}
use Rattle.saved_form.specs.Saving.{save_of}
use Rattle.c_calls.specs.Numbers.{refusal_in}
use Rattle.c_calls.specs.Bytes.{bench_in}
use Rattle.c_calls.specs.Calls.{LoadGave, load_bytes, feed_bytes}
use Rattle.c_calls.specs.Laws.{LoadRefused, FeedRefused}
use Rattle.c_calls.proofs.Answers.{result_refusal}

-- a piece that the keeper refuses gives no replies, and leaves bench and buffer
pub record Nothing (s : State) (p : Piece) (f : Fed) : Type 0 where
  pub replies : f.replies ≡ 0
  pub state : f.state ≡ s
  pub buffer : f.buffer ≡ p.buffer

pub fed_nothing : (s : State) (p : Piece) → ((feed_of s p).number ≡ 0 → ⊥) → Nothing s p (feed_of s p)
unfolding feed_of
fed_nothing s p = by_if P _ _ _ (λ e n. absurd (n refl)) (λ e n. record { replies = refl; state = refl; buffer = refl })
  where
    P : Fed → Type 0
    P f = (f.number ≡ 0 → ⊥) → Nothing s p f

pub feed_refused_nothing : FeedRefused
unfolding feed_bytes when◌then◌else◌
feed_refused_nothing state p ne =
    let f = feed_of (bench_in state) p in
    let n : f.number ≡ 0 → ⊥ = λ e. ne (result_refusal f.number f.replies ∙ e) in
    (rw (ne_eqb _ _ n), (fed_nothing (bench_in state) p n).buffer)

-- saving that is refused leaves the buffer
saved_nothing : (s : State) (buffer : List ℕ) → ((save_of s buffer).number ≡ 0 → ⊥) → (save_of s buffer).buffer ≡ buffer
unfolding save_of when◌then◌else◌
saved_nothing s buffer n = rw (ne_eqb _ _ n)

pub load_refused_nothing : LoadRefused
unfolding load_bytes
load_refused_nothing table state =
    by_if P _ _ _ (λ e ne. saved_nothing (load_of table).state state (λ z. ne (result_refusal _ 0 ∙ z))) (λ e ne. refl)
  where
    P : LoadGave → Type 0
    P g = (refusal_in g.result ≡ 0 → ⊥) → g.state ≡ state
