-- `links::index` meets its contract. The invariant: the rows up to p are counted up. Assumes nothing.
use Rattle.memory.specs.Layout.{state_in}
use Rattle.links.proofs.Summing.{Summed}
use Rattle.links.proofs.index.Given as goal

abbrev pub invariant-loop-p : goal.invariant-loop-p
invariant-loop-p l = Summed (state_in l.bytes l.words).wiring.consumer l.many l.p l.first
