-- A bench read from the bytes of a C host. Assumes nothing.
use Rattle.std.specs.Prelude.{◌≡◌, List, ℕ}
use Rattle.keeper_bench.specs.declared.Bench.{Bench}
use Rattle.keeper_bench.specs.Translate.{state_of}
use Rattle.saved_form.specs.Restoring.{judged_of}
use Rattle.c_calls.specs.Bytes.{bench_in}

-- the bench that the bytes begin with, once it is judged: an unsound one counts as the empty one
pub record BenchIs (bytes : List ℕ) (b : Bench) : Type 0 where
  pub judged : (judged_of (state_of b)).state ≡ bench_in bytes
