-- The records of a source one after another: after k of them the rest of the source leads where all of it leads. Assumes nothing.
use Rattle.memory.specs.Layout.{state_in}
use Rattle.record_loop.specs.Runs.{Turning}
use Rattle.record_loop.proofs.answer_records.Given as goal

abbrev pub invariant-loop-k : goal.invariant-loop-k
invariant-loop-k l =
    Turning l.first l.source l.initial.replies l.count l.k (state_in l.initial.bytes l.initial.words) (state_in l.bytes l.words) l.replies
