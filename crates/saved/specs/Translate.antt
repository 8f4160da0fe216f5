-- What `save` and `restore` hand back, in the model's words. Assumes nothing.
use Rattle.std.specs.Prelude.{List, ℕ, ⊤, Result, Ok, Err}
use Rattle.keeper_bench.specs.declared.Bench.{Bench}
use Rattle.keeper_bench.specs.Translate.{state_of}
use Rattle.saved_answer.specs.declared.SaveRefusal.{SaveRefusal}
use Rattle.saved_answer.specs.declared.RestoreRefusal.{RestoreRefusal}
use Rattle.saved_answer.specs.Answers.{saving_of, restore_refusal, restoring_of}
use Rattle.saved_form.specs.Saving.{Saved}
use Rattle.saved_form.specs.Restoring.{Restored, refusal}
use Rattle.saved.specs.declared.Restored as declared

-- with the buffer as it is left
abbrev pub saved_of : Result ⊤ SaveRefusal → List ℕ → Saved
saved_of r buffer = record { number = saving_of r; buffer = buffer }

-- a bench, or a refusal, which leaves the empty one
abbrev pub bench_restored : Result Bench RestoreRefusal → Restored
bench_restored (Ok b) = record { number = 0; state = state_of b }
bench_restored (Err r) = refusal (restore_refusal r)

abbrev pub restored_of : declared.Restored → Restored
restored_of r = record { number = restoring_of r.answer; state = state_of r.bench }
