-- What becomes of a bench to save and of bytes to restore, in document 02's numbers. Assumes nothing.
use Rattle.std.specs.Prelude.{ℕ, ⊤, Result, Ok, Err}
use Rattle.saved_answer.specs.declared.SaveRefusal.{SaveRefusal}
use Rattle.saved_answer.specs.declared.SaveRefusal.TheVariants as saving
use Rattle.saved_answer.specs.declared.RestoreRefusal.{RestoreRefusal}
use Rattle.saved_answer.specs.declared.RestoreRefusal.TheVariants as restoring

-- 21 or 8
abbrev pub save_refusal : SaveRefusal → ℕ
save_refusal saving.Unsound = 21
save_refusal saving.Room = 8

-- a refusal's number, or 0 where the form is written
abbrev pub saving_of : Result ⊤ SaveRefusal → ℕ
saving_of (Ok _) = 0
saving_of (Err r) = save_refusal r

-- 1, 2, 3, 5 or 21
abbrev pub restore_refusal : RestoreRefusal → ℕ
restore_refusal restoring.Short = 1
restore_refusal restoring.Mark = 2
restore_refusal restoring.Version = 3
restore_refusal restoring.Length = 5
restore_refusal restoring.Unsound = 21

-- a refusal's number, or 0 where the bytes are a bench's form
abbrev pub restoring_of : Result ⊤ RestoreRefusal → ℕ
restoring_of (Ok _) = 0
restoring_of (Err r) = restore_refusal r
