-- The first piece is fed to the bench given. The invariant: what was fed from then on leads to the session. The measure is the number of turns
-- that there can be, by the pieces counted in the progress: it falls since each turn goes on from the progress of the one before. Assumes nothing.
use Rattle.replay_session.specs.Sessions.{Onward}
use Rattle.replay_session.proofs.Sessions.{turns_left}
use Rattle.replay_session.proofs.pour.Given as goal

abbrev pub invariant-loop-session : goal.invariant-loop-session
invariant-loop-session g l = Onward l.initial.session.progress l.session

abbrev pub decreases-loop-session : goal.decreases-loop-session
decreases-loop-session g l = turns_left l.session.more l.session.progress.pieces
