-- "Each request hands back a whole new bench": what one request on a bench gives, sound or not. Assumes nothing.
use Rattle.std.specs.Prelude.{not, ℕ}
use Rattle.model.specs.Logic.{when◌then◌else◌}
use Rattle.model.specs.State.{State}
use Rattle.model.specs.Records.{Rec, Reply}
use Rattle.model.specs.Steps.{record_step}
use Rattle.model.specs.SoundTest.{sound_test}

-- a refusal's number or 0, the reply (all 0 where the number is not 0), and the bench handed back
pub record Requested : Type 0 where
  pub number : ℕ
  pub reply : Reply
  pub state : State

-- 21 for a bench that is not sound, which comes back as it was; then what the record is answered and leads to
unfoldable pub requested : State → Rec → Requested
requested s r =
    when not (sound_test s) then record { number = 21; reply = record { kind = 0; device = 0; code = 0 }; state = s }
    else record { number = 0; reply = (record_step s r).reply; state = (record_step s r).state }
