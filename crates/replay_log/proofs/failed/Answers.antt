-- Nothing is fed. Assumes nothing.
use mathlib.Core.Path.{refl}
use Rattle.replay_session.proofs.Sessions.{went_none}
use Rattle.replay_log.proofs.failed.Goals as goal

pub returns : goal.returns
returns c =
    let ended = c.ended.ensures in
    went_none ended.0 refl refl refl ended.1
