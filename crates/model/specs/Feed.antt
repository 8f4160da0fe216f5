-- Feeding one piece of log: refusals 21 to 23, and the paragraph that begins "A piece with c carried bytes". Assumes nothing.
use Rattle.std.specs.Prelude.{not, List, ◌++◌, ℕ, ◌+◌, ◌*◌, ◌/◌, length, drop, ltb, eqb}
use Rattle.model.specs.Limits.{MAXPIECE}
use Rattle.model.specs.Logic.{when◌then◌else◌}
use Rattle.model.specs.State.{State}
use Rattle.model.specs.Steps.{run, replies_in}
use Rattle.model.specs.SoundTest.{sound_test}

-- a piece of log, and the reply buffer that comes with it, of any length and content
pub record Piece : Type 0 where
  pub bytes : List ℕ
  pub buffer : List ℕ

-- what a piece gets: a refusal's number or 0, how many replies, the bench handed back, and the buffer, every byte of it
pub record Fed : Type 0 where
  pub number : ℕ
  pub replies : ℕ
  pub state : State
  pub buffer : List ℕ

-- the answer with c bytes carried: 22 over 4,096 bytes, 23 without 4 bytes of room for each reply, 0 where the piece is taken
unfoldable pub piece_answer : ℕ → Piece → ℕ
piece_answer c p =
    when ltb MAXPIECE (length p.bytes) then 22
    else when ltb (length p.buffer) (4 * ((c + length p.bytes) / 4)) then 23
    else 0

unfoldable pub feed_answer : State → Piece → ℕ
feed_answer s p =
    when not (sound_test s) then 21
    else piece_answer s.carry.used p

-- the bytes b at the front of a buffer, the rest of it as it was
abbrev pub over : List ℕ → List ℕ → List ℕ
over b buffer = b ++ drop (length b) buffer

-- a refused piece leaves the bench and the buffer
unfoldable pub feed_of : State → Piece → Fed
feed_of s p =
    when eqb (feed_answer s p) 0 then record { number = 0; replies = length (run s p.bytes).log; state = (run s p.bytes).state; buffer = over (replies_in (run s p.bytes).log) p.buffer }
    else record { number = feed_answer s p; replies = 0; state = s; buffer = p.buffer }
