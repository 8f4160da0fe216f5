-- The words of a line. Assumes nothing.
use Rattle.std.specs.Prelude.{◌≡◌, Bool, true, false, not, List, [], ◌∷◌, ℕ, zero, suc, ◌+◌, ◌-◌, ◌≤◌, ◌<◌, eqb, length, take, drop, Option, Some, None}

-- the most words of a line, and the most names that are looked through, as the code has them
abbrev pub WORDS : ℕ
WORDS = 64

abbrev pub NAMES : ℕ
NAMES = 32

unfoldable pub pick : {A : Type 0} → Bool → A → A → A
pick true a b = a
pick false a b = b

-- a scan stops at a byte: at the one named, or at any other
unfoldable pub stops : ℕ → Bool → ℕ → Bool
stops byte same x = pick (eqb x byte) same (not same)

-- how many bytes stand before the one at which it stops
unfoldable pub before : ℕ → Bool → List ℕ → ℕ
before byte same [] = 0
before byte same (x ∷ t) = pick (stops byte same x) 0 (suc (before byte same t))

-- the place r at which a scan from a place on stops; it is no further than the end
pub record Scanned (byte : ℕ) (same : Bool) (s : List ℕ) (from r : ℕ) : Type 0 where
  pub is : r ≡ from + before byte same (drop from s)
  pub low : from ≤ r
  pub high : from ≤ length s → r ≤ length s

-- where words have the byte c between them: the first place from a place on that holds it, and that does not
unfoldable pub to_gap : ℕ → List ℕ → ℕ → ℕ
to_gap c s from = from + before c true (drop from s)

unfoldable pub past_gap : ℕ → List ℕ → ℕ → ℕ
past_gap c s from = from + before c false (drop from s)

-- where word k starts
unfoldable pub start_of : ℕ → List ℕ → ℕ → ℕ
start_of c s zero = past_gap c s 0
start_of c s (suc k) = past_gap c s (to_gap c s (start_of c s k))

unfoldable pub word_in : ℕ → List ℕ → ℕ → List ℕ
word_in c s k = take (to_gap c s (start_of c s k) - start_of c s k) (drop (start_of c s k) s)

-- word k stands from a to e
pub record Word (c : ℕ) (s : List ℕ) (k a e : ℕ) : Type 0 where
  pub starts : a ≡ start_of c s k
  pub ends : e ≡ to_gap c s (start_of c s k)
  pub low : a ≤ e
  pub high : e ≤ length s

-- place r is the first among the names where the text stands; NAMES where there is none
pub record Placed (names text : List ℕ) (r : ℕ) : Type 0 where
  pub first : (j : ℕ) → j < r → word_in 32 names j ≡ text → ⊥
  pub here : r < NAMES → word_in 32 names r ≡ text
  pub most : r ≤ NAMES

-- the place of a name that is found; NAMES where there is none
abbrev pub place_of : Option ℕ → ℕ
place_of (Some j) = j
place_of None = NAMES
