-- `c_host::keeper_ask` meets its contract: the answer to the question for the devices of the two parts, as a result. Assumes nothing.
use mathlib.Core.Path.{◌∙◌}
use mir.Syntax.{w32}
use mir.Facts.{to_z-of_z}
use Rattle.c_calls.proofs.Calling.{asked_as}
use Rattle.c_host.proofs.keeper_ask.Goals as goal

pub returns : goal.returns
returns c =
    let bench = c.bench_in in
    let args = c.args in
    to_z-of_z {w = w32} (record { sfits = c.signed.type_inv }) ∙ c.signed.ensures
    ∙ rw (c.asked.ensures, c.device-2.ensures, c.device.ensures) (asked_as _ _ bench.ensures.judged args.question args.part args.second)
