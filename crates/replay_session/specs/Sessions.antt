-- What a session fed to the keeper, and how it ended. A piece is what a read left in the buffer: what a file holds no contract of the C library
-- says. Assumes nothing.
use Rattle.std.specs.Prelude.{◌≡◌, true, List, ◌⊎◌, ℕ, ◌+◌, ◌%◌, ◌^◌}
use Rattle.record_answer.specs.Answers.{number_of}
use Rattle.keeper_bench.specs.declared.Bench.{Bench}
use Rattle.program_end.specs.declared.End.{End}
use Rattle.program_end.specs.declared.End.TheVariants.{Done, Refused, Wrong, Failed, Stopped}
use Rattle.replay_pieces.specs.declared.turn.Progress.{Progress}
use Rattle.replay_pieces.specs.declared.turn.Turn.{Turn}
use Rattle.replay_pieces.specs.Turns.{Turned}
use Rattle.replay_pieces.specs.Poured.{Poured}
use Rattle.replay_session.specs.declared.Session.{Session}

-- how the replay of a log can end: done, a file fails, or the keeper refuses a piece or to save
unfoldable pub Ran : End → Type 0
Ran Done = Unit {0}
Ran Refused = ⊥
Ran Wrong = ⊥
Ran Failed = Unit {0}
Ran Stopped = Unit {0}

-- the end for the number of a table or of a saved state: a refused one is told, where standard output can be written; with one that is taken
-- the log is replayed
pub record Judged (number : ℕ) (end : End) : Type 0 where
  pub refused : (number ≡ 0 → ⊥) → (end ≡ Refused) ⊎ (end ≡ Failed)
  pub taken : number ≡ 0 → Ran end

-- the end after a piece, by the number of its answer: the replay stops where the keeper refuses it, and else goes on or fails
pub record EndedBy (number : ℕ) (end : End) : Type 0 where
  pub stopped : (number ≡ 0 → ⊥) → end ≡ Stopped
  pub taken : number ≡ 0 → (end ≡ Done) ⊎ (end ≡ Failed)

-- one turn of `replay_pieces::turn::feed` with the bytes of a piece
pub record FedTo (p : Progress) (bytes : List ℕ) (s : Session) : Type 0 where
  pub turn : Turn
  pub buffer : List ℕ
  pub after : List ℕ
  pub turned : Turned p (record { bytes = bytes; buffer = buffer }) turn after
  pub progress : s.progress ≡ turn.progress
  pub ended : EndedBy (number_of turn.answer) s.end

-- from bench b on: what was fed, and how it ended
pub record Went (b : Bench) (s : Session) : Type 0 where
  pub poured : Poured b s.progress
  pub ran : Ran s.end

-- what was fed up to p leads on to s
pub record Onward (p : Progress) (s : Session) : Type 0 where
  pub on : (b : Bench) → Poured b p → Went b s

-- the same by one piece or none; by one where there may be more to read
pub record Stepped (p : Progress) (s : Session) : Type 0 where
  pub onward : Onward p s
  pub counted : s.more ≡ true → s.progress.pieces ≡ (p.pieces + 1) % 2 ^ 64
