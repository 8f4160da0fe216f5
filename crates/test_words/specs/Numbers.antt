-- The numbers and bytes that words stand for. Assumes nothing.
use Rattle.std.specs.Prelude.{Bool, List, [], ◌∷◌, ℕ, ◌+◌, ◌*◌, ◌-◌, ◌%◌, eqb, leb, get_or, drop}
use Rattle.std.specs.List.{list_all}
use Rattle.test_words.specs.Words.{pick}

-- what stands for a number that cannot be read
abbrev pub WRONG : ℕ
WRONG = 65536

-- the value of a hexadecimal digit, 0 to 9 and A to F, and 16 for any other byte
unfoldable pub digit_of : ℕ → ℕ
digit_of b = pick (leb 48 b) (pick (leb b 57) (b - 48) (pick (leb 65 b) (pick (leb b 70) (b - 55) 16) 16)) 16

-- a number with a decimal digit after it
unfoldable pub joined : ℕ → ℕ → ℕ
joined v d = pick (leb d 9) (pick (leb (10 * v + d) WRONG) (10 * v + d) WRONG) WRONG

-- the number v with digits after it
unfoldable pub value_after : ℕ → List ℕ → ℕ
value_after v [] = v
value_after v (b ∷ t) = value_after (joined v (digit_of b)) t

-- a negative number as it stands in a record
unfoldable pub minus : ℕ → ℕ
minus v = pick (leb v WRONG) (WRONG - v) WRONG

-- decimal digits, with or without a minus before them
unfoldable pub number_of : List ℕ → ℕ
number_of s = pick (eqb (get_or s 0 0) 45) (minus (value_after 0 (drop 1 s))) (value_after 0 (drop 0 s))

-- byte k of pairs of hexadecimal digits
unfoldable pub hex_byte : List ℕ → ℕ → ℕ
hex_byte s k = 16 * (digit_of (get_or s (2 * k) 0) % 16) + digit_of (get_or s (2 * k + 1) 0) % 16

-- every byte is a hexadecimal digit
abbrev pub all_hex : List ℕ → Bool
all_hex s = list_all (λ b. leb (digit_of b) 15) s
