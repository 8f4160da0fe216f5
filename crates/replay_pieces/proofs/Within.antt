-- The replies to a piece that is taken are the front of its buffer. Assumes nothing.
use Rattle.std.proofs.Common.{◌≡◌, ℕ, ◌*◌, ◌≤◌, List, length, take, drop, ap, arith, length-append, take_at, eq-eqb}
use Rattle.model.specs.State.{State}
use Rattle.model.specs.Steps.{run, replies_in}
use Rattle.model.specs.Feed.{Piece, Fed, feed_answer, feed_of}
use Rattle.model.proofs.Basics.{by_if, never}
use Rattle.model.proofs.Pieces.{log_replies}
use Rattle.record_answer.specs.Answers.{number_of}
use Rattle.keeper_bench.specs.Translate.{state_of}
use Rattle.replay_pieces.specs.declared.turn.Progress.{Progress}
use Rattle.replay_pieces.specs.declared.turn.Turn.{Turn}
use Rattle.replay_pieces.specs.Turns.{Turned}

pub replies_within : (s : State) (p : Piece) → 4 * (feed_of s p).replies ≤ length (feed_of s p).buffer
unfolding feed_of
replies_within s p =
    by_if (λ (f : Fed). 4 * f.replies ≤ length f.buffer) _ _ _
    (λ e.
    let b = replies_in (run s p.bytes).log in
    omega (arith, log_replies (run s p.bytes).log, length-append b (drop (length b) p.buffer)))
    (λ e. omega arith)

replies_front : (s : State) (p : Piece) → (feed_of s p).number ≡ 0 → take (4 * (feed_of s p).replies) (feed_of s p).buffer ≡ replies_in (run s p.bytes).log
unfolding feed_of
replies_front s p =
    by_if Front _ _ _ (λ e z. take_at _ _ _ (log_replies (run s p.bytes).log)) (λ e z. never (eq-eqb (feed_answer s p) 0 z) e)
  where
    Front : Fed → Type 0
    Front f = f.number ≡ 0 → take (4 * f.replies) f.buffer ≡ replies_in (run s p.bytes).log

-- what is to be written of the buffer
pub to_write : {p : Progress} {piece : Piece} {t : Turn} {after : List ℕ} → Turned p piece t after → number_of t.answer ≡ 0
    → take t.bytes after ≡ replies_in (run (state_of p.bench) piece.bytes).log
to_write {p} {piece} u z =
    rw (u.bytes, ap (λ (f : Fed). f.buffer) u.met)
    (replies_front (state_of p.bench) piece (rw (ap (λ (f : Fed). f.number) u.met) at z))
