-- The two translations between a bench and the model's state are inverse: of a bench whose arrays have their lengths, as those of its type
-- have, and of a state whose columns have their rows, as those of a sound state have. Assumes nothing.
use mathlib.Core.Path.{◌≡◌}
use lib.ListN.{length}
use Rattle.model.specs.State.{State}
use Rattle.model.specs.Sound.{Sound}
use Rattle.model.proofs.SoundTest.{Shaped}
use Rattle.memory.specs.Layout.{BYTES, WORDS}
use Rattle.memory.proofs.Inverse.{bytes_of_lem, words_of_lem, state_of_lem, sound_memory}
use Rattle.keeper_bench.specs.declared.Bench.{Bench}
use Rattle.keeper_bench.specs.Translate.{state_of, bench_of}

pub there_and_back : (b : Bench) → length b.bytes ≡ BYTES → length b.words ≡ WORDS → bench_of (state_of b) ≡ b
there_and_back b e f = rw (bytes_of_lem b.bytes b.words e, words_of_lem b.bytes b.words f)

pub back_and_there : {s : State} → Shaped s → state_of (bench_of s) ≡ s
back_and_there h = state_of_lem h

pub sound_back_and_there : {s : State} → Sound s → state_of (bench_of s) ≡ s
sound_back_and_there h = sound_memory h
