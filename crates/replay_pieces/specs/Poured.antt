-- What the program fed to the keeper, from the bench of the table on. Assumes nothing.
use Rattle.std.specs.Prelude.{◌≡◌, ℕ, ◌+◌, ◌%◌, ◌^◌, List, [], ◌∷◌, length}
use Rattle.table.specs.Answers.{answer_of}
use Rattle.keeper_bench.specs.declared.Bench.{Bench}
use Rattle.keeper.specs.Calls.{LoadCall, FeedCall, gave, Linked, last, LoadMet, AllMet}
use Rattle.replay_pieces.specs.declared.turn.Progress.{Progress}

-- the replies of all calls
unfoldable pub replied : List FeedCall → ℕ
replied [] = 0
replied (c ∷ cs) = (gave c).replies + replied cs

-- from bench b: calls of `keeper::feed`, each given the bench that the one before it handed back; the bench of the last, how many they are, and
-- the replies of all
pub record Poured (b : Bench) (p : Progress) : Type 0 where
  pub calls : List FeedCall
  pub linked : Linked b calls
  pub met : AllMet calls
  pub bench : last b calls ≡ p.bench
  pub pieces : p.pieces ≡ length calls % 2 ^ 64
  pub replies : p.replies ≡ replied calls % 2 ^ 64

-- the same from the bench of a table that is taken
pub record Replayed (table : List ℕ) (p : Progress) : Type 0 where
  pub load : LoadCall
  pub given : load.table ≡ table
  pub met : LoadMet load
  pub taken : (answer_of load.result.answer).number ≡ 0
  pub poured : Poured load.result.bench p
