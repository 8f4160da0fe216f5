-- The status of a number. Assumes nothing.
use mathlib.Core.Path.{◌≡◌, refl}
use Prim.Native.Nat.{ℕ, zero, suc, ◌≤◌}
use native.Mathlib.Omega.{arith}
use Rattle.model.specs.Logic.{when◌then◌else◌}
use Rattle.model.specs.State.{SUSPENDING}
use Rattle.keeper_answers.specs.Told.{status_for}

-- the four numbers are read as they are
pub four : (x : ℕ) → x ≤ SUSPENDING → status_for x ≡ x
unfolding when◌then◌else◌
four zero l = refl
four (suc zero) l = refl
four (suc (suc zero)) l = refl
four (suc (suc (suc zero))) l = refl
four (suc (suc (suc (suc x)))) l = absurd (omega arith)
