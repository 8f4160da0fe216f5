-- The bench that a C host keeps as bytes. Assumes nothing.
use Rattle.std.specs.Prelude.{List, ℕ, take, eqb}
use Rattle.model.specs.Logic.{when◌then◌else◌}
use Rattle.model.specs.State.{State, empty_state}
use Rattle.saved_form.specs.Form.{FORM, NEWEST}
use Rattle.saved_form.specs.Restoring.{version_in, restore_of}

-- the bench whose saved state of the newest version the bytes begin with; where they begin with none, the empty bench, which feeding and every
-- question refuse with 21
unfoldable pub bench_in : List ℕ → State
bench_in bytes = when eqb (version_in bytes) NEWEST then (restore_of (take FORM bytes)).state else empty_state
