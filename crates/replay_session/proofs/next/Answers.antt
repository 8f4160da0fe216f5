-- Nothing more is fed where the read fails or the log ends, else one piece. Assumes nothing.
use Rattle.replay_session.proofs.Sessions.{ran_done, ran_failed, stepped_none, stepped_one}
use Rattle.replay_session.proofs.next.Goals as goal

-- the read fails
pub returns-in-Err : goal.returns-in-Err
returns-in-Err g c = let ended = c.ended.ensures in stepped_none ended.0 (ran_failed ended.1) ended.2

-- the log ends
pub returns-then-count-eq0 : goal.returns-then-count-eq0
returns-then-count-eq0 g c = let ended = c.ended-then-count-eq0.ensures in stepped_none ended.0 (ran_done ended.1) ended.2

-- a piece
pub returns : goal.returns
returns g c = stepped_one c.fed.ensures
