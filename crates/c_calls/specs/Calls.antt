-- Request Five, "A C host": load a table into saved-state bytes, feed a piece against those bytes, ask about a part. Assumes nothing.
use Rattle.std.specs.Prelude.{List, ℕ, ℤ, eqb}
use Rattle.model.specs.Logic.{when◌then◌else◌}
use Rattle.model.specs.State.{load_of}
use Rattle.model.specs.Feed.{Piece, feed_of}
use Rattle.model.specs.Questions.{Told}
use Rattle.saved_form.specs.Saving.{save_of}
use Rattle.c_calls.specs.Numbers.{answered}
use Rattle.c_calls.specs.Bytes.{bench_in}
use Rattle.c_calls.specs.Questions.{ask}

-- what a call of load gives: its result, and the state bytes, every one of them
pub record LoadGave : Type 0 where
  pub result : ℤ
  pub state : List ℕ

-- "in load, a bad table with its own number, then too little room for the state with 8"
unfoldable pub load_bytes : List ℕ → List ℕ → LoadGave
load_bytes table state =
    let l = load_of table in
    let saved = save_of l.state state in
    when eqb l.answer.number 0 then record { result = answered saved.number 0; state = saved.buffer }
    else record { result = answered l.answer.number 0; state = state }

-- what a call of feed gives: its result, the state bytes and the reply bytes
pub record FeedGave : Type 0 where
  pub result : ℤ
  pub state : List ℕ
  pub replies : List ℕ

-- the keeper's answer for the bench that the state bytes begin with; "the state bytes begin with the saved form of the bench the keeper hands
-- back, the replies are the keeper's, and the rest stays", and a refusal writes nothing
unfoldable pub feed_bytes : List ℕ → Piece → FeedGave
feed_bytes state piece =
    let fed = feed_of (bench_in state) piece in
    record {
      result = answered fed.number fed.replies;
      state = when eqb fed.number 0 then (save_of fed.state state).buffer else state;
      replies = fed.buffer;
    }

-- what a call of ask gives: its result alone
abbrev told_as : Told → ℤ
told_as t = answered t.number t.value

unfoldable pub ask_bytes : List ℕ → ℕ → ℕ → ℕ → ℤ
ask_bytes state question part second = told_as (ask question (bench_in state) part second)
