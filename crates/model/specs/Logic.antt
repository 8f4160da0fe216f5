-- Tests, and what is found, counted and listed by them: the words of the other files. Assumes nothing.
use Rattle.std.specs.Prelude.{Bool, ◌&&◌, ◌||◌, true, false, List, [], ◌∷◌, ℕ, zero, suc, ◌+◌, eqb}

infixr 20 ◌and◌
infixr 15 ◌or◌
infixr 10 ◌implies◌
infixr 5 when◌then◌else◌
unfoldable pub when◌then◌else◌ : {A : Type 0} → Bool → A → A → A
when◌then◌else◌ true a b = a
when◌then◌else◌ false a b = b

abbrev pub ◌and◌ : Bool → Bool → Bool
a and b = a && b

abbrev pub ◌or◌ : Bool → Bool → Bool
a or b = a || b

unfoldable pub ◌implies◌ : Bool → Bool → Bool
◌implies◌ true b = b
◌implies◌ false b = true

abbrev pub bit : Bool → ℕ
bit true = 1
bit false = 0

-- some number below n passes f
unfoldable pub any : (ℕ → Bool) → ℕ → Bool
any f zero = false
any f (suc n) = f n or any f n

-- every number below n passes f
unfoldable pub all : (ℕ → Bool) → ℕ → Bool
all f zero = true
all f (suc n) = f n and all f n

-- the least number below n that passes f; n where none does
unfoldable pub first : (ℕ → Bool) → ℕ → ℕ
first f zero = zero
first f (suc n) = when f 0 then 0 else suc (first (λ k. f (suc k)) n)

-- how many numbers below n pass f
unfoldable pub count : (ℕ → Bool) → ℕ → ℕ
count f zero = 0
count f (suc n) = count f n + bit (f n)

-- how many numbers k below n are on and have the key q
unfoldable pub tally : (ℕ → Bool) → (ℕ → ℕ) → ℕ → ℕ → ℕ
tally on key n q = count (λ k. on k and eqb (key k) q) n

-- the values of f below n, in order
unfoldable pub column : (ℕ → ℕ) → ℕ → List ℕ
column f zero = []
column f (suc n) = f 0 ∷ column (λ k. f (suc k)) n
