-- The invariant: `found` says of the devices below q what the contract says of those below t. Each turn is a law of `Scans`. Assumes nothing.
use Rattle.wakeset.specs.Marks.{HeardFrom}
use Rattle.wakeset.proofs.any_barred.Given as goal

abbrev pub invariant-loop-q : goal.invariant-loop-q
invariant-loop-q l = HeardFrom l.bytes l.words l.marks l.low l.q l.found
