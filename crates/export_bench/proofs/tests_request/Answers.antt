-- `export_bench::tests_request` meets its contract, by those of `called` and `outcome_code`. Assumes nothing.
use mathlib.Core.Path.{ap, ◌∙◌}
use Prim.Native.Nat.{◌+◌}
use Rattle.model.specs.Methods.{Requested}
use Rattle.export_bench.specs.Called.{packed}
use Rattle.export_bench.proofs.tests_request.Goals as goal

pub returns : goal.returns
returns c =
    let done = c.called-done.ensures.is in
    record {
      code = c.outcome_code.ensures ∙ ap (λ (q : Requested). q.number + packed q.reply) done;
      state = ap (λ (q : Requested). q.state) done;
    }
