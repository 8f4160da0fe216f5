-- The words of a line. Assumes nothing.
use Rattle.std.specs.Prelude.{Bool, not, List, ℕ, zero, suc, eqb, take, drop}
use Rattle.std.specs.List.{prefix_len}
use Rattle.model.specs.Logic.{◌or◌}

-- a byte before a comment: any but the # that it starts with
abbrev pub is_code : ℕ → Bool
is_code b = not (eqb b 35)

-- space, tab, carriage return
unfoldable pub is_blank : ℕ → Bool
is_blank b = eqb b 32 or eqb b 9 or eqb b 13

-- a byte of a word: any that is no blank
abbrev pub is_letter : ℕ → Bool
is_letter b = not (is_blank b)

-- the bytes before the first that fails the test
abbrev pub before : (ℕ → Bool) → List ℕ → List ℕ
before p t = take (prefix_len p t) t

-- the bytes from that one on
abbrev pub from : (ℕ → Bool) → List ℕ → List ℕ
from p t = drop (prefix_len p t) t

-- word k of a text, from 0; empty past the last word
unfoldable pub word_at : List ℕ → ℕ → List ℕ
word_at t zero = before is_letter (from is_blank t)
word_at t (suc k) = word_at (from is_letter (from is_blank t)) k

-- word k of a line; a comment is no part of it
unfoldable pub word_in : List ℕ → ℕ → List ℕ
word_in line k = word_at (before is_code line) k
