-- A piece fed: what the model gives for it. Assumes nothing.
use Rattle.std.specs.Prelude.{◌≡◌, ℕ, ◌+◌, ◌*◌, ◌%◌, ◌^◌, ◌≤◌, List, length}
use Rattle.model.specs.Feed.{Piece, feed_of}
use Rattle.keeper_bench.specs.Translate.{state_of}
use Rattle.keeper.specs.Calls.{FeedCall, FeedMet}
use Rattle.replay_pieces.specs.declared.turn.Progress.{Progress}
use Rattle.replay_pieces.specs.declared.turn.Turn.{Turn}

-- the call of `keeper::feed` that a turn is: what it was given, and what it handed back
abbrev pub call_of : Progress → Piece → Turn → List ℕ → FeedCall
call_of p piece r after = record { bench = p.bench; piece = piece; result = record { answer = r.answer; bench = r.progress.bench }; after = after }

-- the answer, the bench and every byte of the buffer are those that the model gives; four bytes a reply, which the buffer has; one more piece,
-- and its replies are added to the number before it
pub record Turned (p : Progress) (piece : Piece) (r : Turn) (after : List ℕ) : Type 0 where
  pub met : FeedMet (call_of p piece r after)
  pub bytes : r.bytes ≡ 4 * (feed_of (state_of p.bench) piece).replies
  pub within : r.bytes ≤ length after
  pub pieces : r.progress.pieces ≡ (p.pieces + 1) % 2 ^ 64
  pub total : r.progress.replies ≡ (p.replies + (feed_of (state_of p.bench) piece).replies) % 2 ^ 64
