-- What was read is to restoring: refused with its number, or judged, it is what restoring gives. Assumes nothing.
use mathlib.Core.Path.{◌≡◌, refl, ap, ◌∙◌}
use mathlib.Core.List.{List}
use Prim.Native.Nat.{ℕ}
use borrow.Author.Tests.{ne_eqb}
use Rattle.std.specs.Prelude.{Ok, Err}
use Rattle.model.specs.Logic.{when◌then◌else◌}
use Rattle.model.specs.State.{empty_state}
use Rattle.model.proofs.Basics.{by_if}
use Rattle.memory.specs.Layout.{state_in}
use Rattle.saved_answer.specs.declared.RestoreRefusal.{RestoreRefusal}
use Rattle.saved_answer.specs.Answers.{restore_refusal}
use Rattle.saved_answer.proofs.Numbers.{restoring_refused}
use Rattle.saved_form.specs.Restoring.{state_by, head_answer, Restored, refusal, judged_of, restore_of}
use Rattle.saved_read.specs.Reads.{ReadIs}
use Rattle.saved_read.specs.declared.Cells.{Cells}

pub restore_refused : (f : List ℕ) (e : RestoreRefusal) → ReadIs f (Err e) → refusal (restore_refusal e) ≡ restore_of f
unfolding restore_of when◌then◌else◌
restore_refused f e h =
    let ne : head_answer f ≡ 0 → ⊥ = λ y. restoring_refused e (h.number ∙ y) in
    rw (ne_eqb _ _ ne, h.number)

pub restore_read : (f : List ℕ) (c : Cells) → ReadIs f (Ok c) → judged_of (state_in c.bytes c.words) ≡ restore_of f
unfolding restore_of state_by when◌then◌else◌
restore_read f c h = rw (← h.number, h.cells.in_bytes, h.cells.in_words)

-- the empty bench, sound or not
pub judged_empty : (judged_of empty_state).state ≡ empty_state
unfolding judged_of
judged_empty = by_if (λ (r : Restored). r.state ≡ empty_state) _ _ _ (λ e. refl) (λ e. refl)

-- the empty bench in place of what is refused
pub refused_judged : (f : List ℕ) (e : RestoreRefusal) → ReadIs f (Err e) → (judged_of empty_state).state ≡ (restore_of f).state
refused_judged f e h = judged_empty ∙ ap (λ (r : Restored). r.state) (restore_refused f e h)
