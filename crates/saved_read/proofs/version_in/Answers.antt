-- `saved_read::version_in` meets its contract: two bytes, low byte first. Assumes nothing.
use native.Mathlib.Omega.{arith}
use Rattle.saved_form.specs.Restoring.{version_in}
use Rattle.saved_read.proofs.version_in.Goals as goal

pub returns : goal.returns
unfolding version_in
returns c = omega (arith, c.from_le_bytes.ensures)
