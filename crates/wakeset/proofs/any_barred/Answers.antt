-- The invariant: `found` says of the devices below q what the contract says of those below t. Each turn is a law of `Scans`. Assumes nothing.
use native.Mathlib.Omega.{arith}
use Rattle.wakeset.proofs.Scans.{heard_start, heard_more, heard_end}
use Rattle.wakeset.proofs.any_barred.Goals as goal

pub loop-q-init : goal.loop-q-init
loop-q-init c = heard_start

pub loop-q-preserved : goal.loop-q-preserved
loop-q-preserved c = rw (c.bars.ensures, c.from.ensures) (heard_more (omega arith) c.loop-q.invariant)
