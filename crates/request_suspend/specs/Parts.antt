-- Parts of the model's definitions that have functions of their own. Assumes nothing.
use Rattle.std.specs.Prelude.{Bool, ℕ, eqb}
use Rattle.model.specs.Limits.{EAGAIN, EBUSY, minus}
use Rattle.model.specs.Logic.{when◌then◌else◌, ◌or◌}
use Rattle.model.specs.State.{SUSPENDED, ACTIVE}

-- a suspend callback's result that is not kept as an error
unfoldable pub passing : ℕ → Bool
passing v = eqb v (minus EAGAIN) or eqb v (minus EBUSY)

-- the status that a suspend callback's result leads to
unfoldable pub settled : ℕ → ℕ
settled v = when eqb v 0 then SUSPENDED else ACTIVE
