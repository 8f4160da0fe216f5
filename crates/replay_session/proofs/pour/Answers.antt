-- The first piece is fed to the bench given. The invariant: what was fed from then on leads to the session. The measure is the number of turns
-- that there can be, by the pieces counted in the progress: it falls since each turn goes on from the progress of the one before. Assumes nothing.
use mathlib.Core.Path.{refl}
use Rattle.replay_session.proofs.Sessions.{onward_one, onward_here, onward_on, went_on, turns_fewer}
use Rattle.replay_session.proofs.pour.Goals as goal

pub loop-session-init : goal.loop-session-init
loop-session-init g c = onward_here c.fed-session.ensures

pub loop-session-smaller : goal.loop-session-smaller
loop-session-smaller g c =
    rw c.loop-session-test.true (turns_fewer _ _ _ c.if-progress-ge18446744073709551615.false c.next-session.ensures.counted)

pub loop-session-preserved : goal.loop-session-preserved
loop-session-preserved g c =
    onward_on c.loop-session.invariant c.next-session.ensures.onward

-- there is no more
pub returns-after-loop-session : goal.returns-after-loop-session
returns-after-loop-session g c =
    went_on refl refl refl (onward_on (onward_one c.fed-session.ensures) c.loop-session.invariant)

-- the pieces cannot be counted any more
pub returns-then-progress-ge18446744073709551615 : goal.returns-then-progress-ge18446744073709551615
returns-then-progress-ge18446744073709551615 g c =
    went_on refl refl refl (onward_on (onward_one c.fed-session.ensures) c.loop-session.invariant)
