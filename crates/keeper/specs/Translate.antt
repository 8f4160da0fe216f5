-- What `load` and `feed` hand back, in the model's words. Assumes nothing.
use Rattle.std.specs.Prelude.{List, ℕ}
use Rattle.model.specs.State.{Loaded}
use Rattle.model.specs.Feed.{Fed}
use Rattle.table.specs.Answers.{answer_of}
use Rattle.record_answer.specs.Answers.{number_of, replies_of}
use Rattle.keeper_bench.specs.Translate.{state_of}
use Rattle.keeper.specs.declared.Loaded as declared
use Rattle.keeper.specs.declared.Fed as declared-fed

abbrev pub loaded_of : declared.Loaded → Loaded
loaded_of l = record { answer = answer_of l.answer; state = state_of l.bench }

-- with the buffer as it is left
abbrev pub fed_of : declared-fed.Fed → List ℕ → Fed
fed_of f buffer = record { number = number_of f.answer; replies = replies_of f.answer; state = state_of f.bench; buffer = buffer }
