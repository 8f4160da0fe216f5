-- `saved_read::fill` meets its contract. The invariant: the spans that are left lead where all of them lead. Assumes nothing.
use Rattle.saved_read.proofs.Laying.{Filling}
use Rattle.saved_read.proofs.fill.Given as goal

abbrev pub invariant-loop-span : goal.invariant-loop-span
invariant-loop-span l = Filling l.f l.span-items l.span-index l.initial.bytes l.initial.words l.bytes l.words
