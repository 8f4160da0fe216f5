-- What was fed stays; the end is that of closing the file of replies. Assumes nothing.
use Rattle.replay_session.proofs.Sessions.{went_closed}
use Rattle.replay_log.proofs.poured.Goals as goal

pub returns : goal.returns
returns g c =
    went_closed c.pour-session.ensures c.ended.ensures.0 c.ended.ensures.1 c.closed.ensures
