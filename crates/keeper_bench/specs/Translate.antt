-- A bench as the model's state, and back. Assumes nothing.
use Rattle.keeper_bench.specs.declared.Bench.{Bench}
use Rattle.model.specs.State.{State}
use Rattle.memory.specs.Layout.{state_in, bytes_of, words_of}

abbrev pub state_of : Bench → State
state_of b = state_in b.bytes b.words

abbrev pub bench_of : State → Bench
bench_of s = record { bytes = bytes_of s; words = words_of s }
