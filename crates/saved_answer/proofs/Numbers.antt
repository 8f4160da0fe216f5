-- A refusal has a number other than 0, which is that of a saving that wrote and of a restoring that took. Assumes nothing.
use mathlib.Core.Path.{◌≡◌}
use native.Mathlib.Omega.{arith}
use Rattle.saved_answer.specs.declared.SaveRefusal.{SaveRefusal}
use Rattle.saved_answer.specs.declared.SaveRefusal.TheVariants as saving
use Rattle.saved_answer.specs.declared.RestoreRefusal.{RestoreRefusal}
use Rattle.saved_answer.specs.declared.RestoreRefusal.TheVariants as restoring
use Rattle.saved_answer.specs.Answers.{save_refusal, restore_refusal}

pub saving_refused : (r : SaveRefusal) → save_refusal r ≡ 0 → ⊥
saving_refused saving.Unsound e = omega arith
saving_refused saving.Room e = omega arith

pub restoring_refused : (r : RestoreRefusal) → restore_refusal r ≡ 0 → ⊥
restoring_refused restoring.Short e = omega arith
restoring_refused restoring.Mark e = omega arith
restoring_refused restoring.Version e = omega arith
restoring_refused restoring.Length e = omega arith
restoring_refused restoring.Unsound e = omega arith
