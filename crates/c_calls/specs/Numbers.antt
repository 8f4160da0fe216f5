-- "Each call returns a number: a refusal's negated, else 0 for load, the count of replies for feed, the keeper's answer for ask". Assumes nothing.
use Rattle.std.specs.Prelude.{ℕ, suc, ℤ, pos, negsuc, neg_ℤ, ltb, eqb}
use Rattle.model.specs.Limits.{NONE}
use Rattle.model.specs.Logic.{when◌then◌else◌}

-- the result of a call, by a refusal's number, 0 where there is none, and by what is answered then
unfoldable pub answered : ℕ → ℕ → ℤ
answered number value = when eqb number 0 then pos value else neg_ℤ (pos number)

-- and back: the refusal's number, 0 where there is none, and the count of replies
unfoldable pub refusal_in : ℤ → ℕ
refusal_in (pos n) = 0
refusal_in (negsuc n) = suc n

unfoldable pub count_in : ℤ → ℕ
count_in (pos n) = n
count_in (negsuc n) = 0

-- one more than the greatest result
abbrev pub RANGE : ℕ
RANGE = 2147483648

-- the device that a part number is taken as: past the devices that a byte can name all are alike, and no bench has one
unfoldable pub device_of : ℕ → ℕ
device_of part = when ltb part NONE then part else NONE
