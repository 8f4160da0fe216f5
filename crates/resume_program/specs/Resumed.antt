-- What the program fed to the keeper, from the bench of a saved state on. Assumes nothing.
use Rattle.std.specs.Prelude.{◌≡◌, List, ℕ}
use Rattle.replay_pieces.specs.declared.turn.Progress.{Progress}
use Rattle.replay_pieces.specs.Poured.{Poured}
use Rattle.saved_answer.specs.Answers.{restoring_of}
use Rattle.saved.specs.Calls.{RestoreCall, RestoreMet}

pub record Resumed (bytes : List ℕ) (p : Progress) : Type 0 where
  pub restore : RestoreCall
  pub given : restore.bytes ≡ bytes
  pub met : RestoreMet restore
  pub taken : restoring_of restore.result.answer ≡ 0
  pub poured : Poured restore.result.bench p
