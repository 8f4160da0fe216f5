-- Numbers in decimal digits, and the size of a piece, as an argument gives it. Assumes nothing.
use Rattle.std.specs.Prelude.{Bool, true, List, [], ◌∷◌, Option, Some, None, ℕ, ◌+◌, ◌*◌, ◌-◌, leb, min}
use Rattle.model.specs.Logic.{when◌then◌else◌, ◌and◌}

-- a byte is a decimal digit
unfoldable pub is_digit : ℕ → Bool
is_digit b = leb 48 b and leb b 57

-- the value of a decimal digit; none of any other byte
unfoldable pub digit_of : ℕ → Option ℕ
digit_of b = when is_digit b then Some (b - 48) else None

-- every byte is a decimal digit
unfoldable pub all_digits : List ℕ → Bool
all_digits [] = true
all_digits (b ∷ t) = is_digit b and all_digits t

-- the number that digits after v stand for
unfoldable pub value_after : ℕ → List ℕ → ℕ
value_after v [] = v
value_after v (b ∷ t) = value_after (10 * v + (b - 48)) t

-- the number that digits stand for, or most in place of a greater one; none where a byte is no digit. v is what stands before the text
unfoldable pub number_after : ℕ → ℕ → List ℕ → Option ℕ
number_after most v t = when all_digits t then Some (min (value_after v t) most) else None

unfoldable pub number_of : ℕ → List ℕ → Option ℕ
number_of most t = number_after most 0 t

-- decimal digits of a number from 1 to 4,096; anything else is wrong. v is what stands before the text
unfoldable pub size_after : ℕ → List ℕ → Option ℕ
size_after v t = when all_digits t and leb 1 (value_after v t) and leb (value_after v t) 4096 then Some (value_after v t) else None

unfoldable pub size_of : List ℕ → Option ℕ
size_of t = size_after 0 t
