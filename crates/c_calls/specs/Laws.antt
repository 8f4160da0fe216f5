-- The laws of the calls of a C host. Assumes nothing.
use Rattle.std.specs.Prelude.{◌≡◌, List, ◌↔◌, ℕ, take}
use Rattle.model.specs.State.{State}
use Rattle.model.specs.Sound.{Sound}
use Rattle.model.specs.Feed.{Piece}
use Rattle.memory.specs.Layout.{BYTE, Cells}
use Rattle.saved_form.specs.Form.{FORM, form}
use Rattle.c_calls.specs.Numbers.{refusal_in}
use Rattle.c_calls.specs.Bytes.{bench_in}
use Rattle.c_calls.specs.Calls.{load_bytes, feed_bytes}

-- a sound bench is the one that bytes begin with exactly when its saved form stands at their front
abbrev pub Begins : Type 0
Begins = (bytes : List ℕ) → Cells BYTE bytes → (s : State) → Sound s → (bench_in bytes ≡ s) ↔ (take FORM bytes ≡ form s)

-- "a refusal writes nothing"
abbrev pub LoadRefused : Type 0
LoadRefused = (table state : List ℕ) → (refusal_in (load_bytes table state).result ≡ 0 → ⊥) → (load_bytes table state).state ≡ state

abbrev pub FeedRefused : Type 0
FeedRefused = (state : List ℕ) (p : Piece) → (refusal_in (feed_bytes state p).result ≡ 0 → ⊥) → ((feed_bytes state p).state ≡ state) × ((feed_bytes state p).replies ≡ p.buffer)
