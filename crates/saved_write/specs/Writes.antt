-- A memory written as a form. Assumes nothing.
use Rattle.std.specs.Prelude.{◌≡◌, List, ℕ, ⊤, Result, Ok, Err, length, leb}
use Rattle.model.specs.Logic.{when◌then◌else◌}
use Rattle.model.specs.Feed.{over}
use Rattle.memory.specs.Layout.{state_in}
use Rattle.saved_answer.specs.declared.SaveRefusal.{SaveRefusal}
use Rattle.saved_answer.specs.declared.SaveRefusal.TheVariants.{Room}
use Rattle.saved_form.specs.Form.{FORM, form}

-- refused where there is no room, and the buffer that is left: with room, the form of the memory's state over its front
pub record WriteIs (bytes words before : List ℕ) (r : Result ⊤ SaveRefusal) (after : List ℕ) : Type 0 where
  pub room : r ≡ (when leb FORM (length before) then Ok tt else Err Room)
  pub buffer : after ≡ (when leb FORM (length before) then over (form (state_in bytes words)) before else before)
