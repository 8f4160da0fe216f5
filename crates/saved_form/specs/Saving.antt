-- "Saving an unsound bench is refused with 21, then a short buffer with 8, nothing written; bytes past the form stay." Assumes nothing.
use Rattle.std.specs.Prelude.{not, List, ℕ, length, ltb, eqb}
use Rattle.model.specs.Logic.{when◌then◌else◌}
use Rattle.model.specs.State.{State}
use Rattle.model.specs.SoundTest.{sound_test}
use Rattle.model.specs.Feed.{over}
use Rattle.saved_form.specs.Form.{FORM, form}

-- what saving gives: a refusal's number or 0, and the buffer, every byte of it
pub record Saved : Type 0 where
  pub number : ℕ
  pub buffer : List ℕ

unfoldable pub save_number : State → List ℕ → ℕ
save_number s buffer =
    when not (sound_test s) then 21
    else when ltb (length buffer) FORM then 8
    else 0

unfoldable pub save_of : State → List ℕ → Saved
save_of s buffer = record { number = save_number s buffer; buffer = when eqb (save_number s buffer) 0 then over (form s) buffer else buffer }
