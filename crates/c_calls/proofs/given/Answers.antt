-- `c_calls::given` meets its contract: the rest by 2^31 fits. Assumes nothing.
use native.Mathlib.Omega.{arith}
use Rattle.c_calls.proofs.Results.{positive}
use Rattle.c_calls.proofs.given.Goals as goal

pub returns : goal.returns
returns c = positive _ (omega arith)
