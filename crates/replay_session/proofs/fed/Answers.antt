-- What is written is the front of the buffer, which the replies of a piece that is taken are. Assumes nothing.
use mathlib.Core.Path.{ap}
use Rattle.record_answer.specs.Answers.{number_of}
use Rattle.replay_pieces.proofs.Within.{to_write}
use Rattle.replay_session.proofs.fed.Goals as goal

-- what is written
pub write_replies-requires : goal.write_replies-requires
write_replies-requires g c =
    to_write c.feed-turn.ensures (ap number_of c.in_default.is)
