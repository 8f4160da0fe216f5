-- The line of a device. Assumes nothing.
use Rattle.std.specs.Prelude.{List, ◌++◌, ℕ, ◌+◌, eqb}
use Rattle.model.specs.Logic.{when◌then◌else◌}
use Rattle.replay_text.specs.Text.{ascii, decimal}
use Rattle.replay_row.specs.declared.Row.{Row}

-- the word of a status; of a sound bench no other
unfoldable pub status_text : ℕ → List ℕ
status_text status =
    when eqb status 0 then ascii "suspended"
    else when eqb status 1 then ascii "resuming"
    else when eqb status 2 then ascii "active"
    else when eqb status 3 then ascii "suspending"
    else ascii "unknown"

-- the sign of a runtime error of that magnitude: none before 0
unfoldable pub sign_text : ℕ → List ℕ
sign_text magnitude = when eqb magnitude 0 then ascii "" else ascii "-"

-- device P status S usage U children C holds H depth D error E
unfoldable pub device_text : ℕ → ℕ → ℕ → ℕ → ℕ → ℕ → ℕ → List ℕ
device_text p status holds linked children depth error =
    ascii "device " ++ decimal p ++ ascii " status " ++ status_text status ++ ascii " usage " ++ decimal (holds + linked)
    ++ ascii " children " ++ decimal children ++ ascii " holds " ++ decimal holds ++ ascii " depth " ++ decimal depth
    ++ ascii " error " ++ sign_text error ++ decimal error ++ ascii "\n"

abbrev pub row_text : ℕ → Row → List ℕ
row_text p r = device_text p r.status r.holds r.linked r.children r.depth r.error
