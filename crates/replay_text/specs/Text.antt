-- Texts as lists of bytes. Assumes nothing.
use Rattle.std.specs.Prelude.{List, ◌++◌, [] as none, ◌∷◌ as cons, ℕ, zero, suc, ◌+◌, ◌/◌, ◌%◌, ltb}
use Prim.Native.Char.{code}
use Prim.Native.String.{String, [], ◌∷◌}
use Rattle.model.specs.Logic.{when◌then◌else◌}

-- the bytes of a text, each character's code
unfoldable pub ascii : String → List ℕ
ascii [] = none
ascii (c ∷ s) = cons (code c) (ascii s)

-- one byte
abbrev pub single : ℕ → List ℕ
single b = cons b none

-- the decimal digits of n, the most significant first, no zeros in front; at most k
unfoldable pub digits_up_to : ℕ → ℕ → List ℕ
digits_up_to zero n = none
digits_up_to (suc k) n = when ltb n 10 then single (48 + n) else digits_up_to k (n / 10) ++ single (48 + n % 10)

-- the decimal digits of a number of 64 bits, which has at most 20
unfoldable pub decimal : ℕ → List ℕ
decimal n = digits_up_to 20 n
