-- "A day at the bench, byte for byte", and P1 to P14 as a list of claims. Assumes nothing.
use Rattle.std.specs.Prelude.{◌≡◌, ℕ}
use mathlib.Core.List.{List, [], ◌∷◌, map, flat_map}
use Rattle.model.specs.State.{State, with_holds, load_of}
use Rattle.model.specs.Steps.{run, replies_in}

-- bus 0, reference 1, converter 2 under the bus and fed by the reference
unfoldable pub day_table : List ℕ
day_table = 0x54 ∷ 0x57 ∷ 0x42 ∷ 1 ∷ 0 ∷ 3 ∷ 1 ∷ 0xff ∷ 0 ∷ 0xff ∷ 0 ∷ 0 ∷ 0 ∷ 2 ∷ 1 ∷ 1 ∷ []

-- four bytes of log, and the four of the reply
pub record Row : Type 0 where
  pub log : List ℕ
  pub reply : List ℕ

abbrev pub row : ℕ → ℕ → ℕ → ℕ → ℕ → ℕ → ℕ → ℕ → Row
row a b c d e f g h = record { log = a ∷ b ∷ c ∷ d ∷ []; reply = e ∷ f ∷ g ∷ h ∷ [] }

unfoldable pub day : List Row
day =
    row 0x01 0x00 0x00 0x00 0x00 0x00 0x00 0x00
    ∷ row 0x01 0x01 0x00 0x00 0x00 0x01 0x00 0x00
    ∷ row 0x01 0x02 0x00 0x00 0x00 0x02 0x00 0x00
    ∷ row 0x04 0x02 0x00 0x00 0x02 0x00 0x00 0x00
    ∷ row 0x0d 0x00 0x00 0x00 0x02 0x01 0x00 0x00
    ∷ row 0x0d 0x01 0x00 0x00 0x02 0x02 0x00 0x00
    ∷ row 0x0d 0x02 0x00 0x00 0x00 0x02 0x00 0x00
    ∷ row 0x08 0x01 0x00 0x00 0x00 0x01 0xf5 0xff
    ∷ row 0x08 0x00 0x00 0x00 0x00 0x00 0xf0 0xff
    ∷ row 0x06 0x02 0x00 0x00 0x03 0x02 0x00 0x00
    ∷ row 0x0d 0x02 0x00 0x00 0x01 0x02 0x00 0x00
    ∷ row 0x0d 0x02 0xf0 0xff 0x00 0x02 0xf0 0xff
    ∷ []

-- rows, fed from a state
pub record Claim : Type 0 where
  pub start : State
  pub rows : List Row

-- P1 to P12, the day; P13 and P14, a get at 32,766 and at 32,767 holds
unfoldable pub claims : List Claim
claims =
    record { start = (load_of day_table).state; rows = day }
    ∷ record { start = with_holds (load_of day_table).state 0 32766; rows = row 0x03 0x00 0x00 0x00 0x00 0x00 0x00 0x00 ∷ [] }
    ∷ record { start = with_holds (load_of day_table).state 0 32767; rows = row 0x03 0x00 0x00 0x00 0x00 0x00 0xb5 0xff ∷ [] }
    ∷ []

-- the reply bytes that the plain keeper gives to a claim's log, and those that the claim expects
unfoldable pub given : Claim → List ℕ
given c = replies_in (run c.start (flat_map (λ (r : Row). r.log) c.rows)).log

unfoldable pub expected : Claim → List ℕ
expected c = flat_map (λ (r : Row). r.reply) c.rows

-- every claim of a list holds
abbrev pub Hold : List Claim → Type 0
Hold cs = map given cs ≡ map expected cs
