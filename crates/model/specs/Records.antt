-- "Records and their replies": records, replies, the table of kinds, and refusals 11 to 13. Assumes nothing.
use Rattle.std.specs.Prelude.{Bool, true, false, not, List, [], ◌∷◌, ◌++◌, ℕ, ◌+◌, ◌-◌, ◌*◌, ◌/◌, ◌%◌, get_or, replicate, ltb, leb, eqb, ℤ, pos, neg_ℤ}
use Rattle.std.specs.Int.Signed.{le_z}
use Rattle.model.specs.Limits.{MAXERROR}
use Rattle.model.specs.Logic.{when◌then◌else◌, ◌and◌, ◌or◌}
use Rattle.model.specs.State.{State}

-- a record; its value is the 16-bit number as it stands, 65,536 - k for -k
pub record Rec : Type 0 where
  pub kind : ℕ
  pub device : ℕ
  pub value : ℕ

-- four bytes as a record
abbrev pub record_of : ℕ → ℕ → ℕ → ℕ → Rec
record_of a b c d = record { kind = a; device = b; value = c + 256 * d }

-- a reply; its code is the 16-bit number as it stands
pub record Reply : Type 0 where
  pub kind : ℕ
  pub device : ℕ
  pub code : ℕ

-- a reply as four bytes
abbrev pub reply_bytes : Reply → List ℕ
reply_bytes r = r.kind ∷ r.device ∷ r.code % 256 ∷ r.code / 256 ∷ []

-- ---- what a record leads to: a state and one reply
pub record Done : Type 0 where
  pub state : State
  pub reply : Reply

-- reply kind 0, finished with a code
abbrev pub finished : State → ℕ → ℕ → Done
finished s p code = record { state = s; reply = record { kind = 0; device = p; code = code } }

-- reply kinds 1, 2, 3: run the suspend, resume, idle callback of the device
abbrev pub ask : State → ℕ → ℕ → Done
ask s kind p = record { state = s; reply = record { kind = kind; device = p; code = 0 } }

-- reply kind 4, refused with a number; the state stays
abbrev pub refused : State → ℕ → ℕ → Done
refused s p number = record { state = s; reply = record { kind = 4; device = p; code = number } }

-- ---- the kinds of records, as one table
-- "The least and greatest value allowed for each kind"
pub record Bounds : Type 0 where
  pub least : ℤ
  pub greatest : ℤ

-- what is fixed for each kind beside what it does
pub record Kind : Type 0 where
  pub bounds : Bounds
  -- it is about the whole bench: device 0 alone may be named. No kind of document 01 is
  pub whole : Bool
  -- it is answered also while a callback is open
  pub always : Bool

abbrev pub zero_only : Bounds
zero_only = record { least = pos 0; greatest = pos 0 }

-- a request about one device
abbrev pub plain : Bounds → Kind
plain b = record { bounds = b; whole = false; always = false }

-- by number: 0, which is no kind, to 11; then 12 and 13. "0 and 0, but 0 and 1 for kind 12, and -4,095 and 0 for kind 13"; "every
-- well_formed record but kind 13 is finished with -115" (house)
unfoldable pub kinds : List Kind
kinds =
    replicate 12 (plain zero_only)
    ++ plain (record { least = pos 0; greatest = pos 1 })
    ∷ record { bounds = record { least = neg_ℤ (pos MAXERROR); greatest = pos 0 }; whole = false; always = true }
    ∷ []

-- the greatest kind, and the kind of a callback's result
abbrev pub LAST : ℕ
LAST = 13

abbrev pub RESULT : ℕ
RESULT = 13

abbrev pub kind_of : ℕ → Kind
kind_of kind = get_or kinds kind (plain zero_only)

-- a 16-bit number read as signed
abbrev pub signed : ℕ → ℤ
signed v = when leb 32768 v and ltb v 65536 then neg_ℤ (pos (65536 - v)) else pos v

-- the value lies in its kind's bounds
unfoldable pub allowed : ℕ → ℕ → Bool
allowed kind v = le_z (kind_of kind).bounds.least (signed v) and le_z (signed v) (kind_of kind).bounds.greatest

-- ---- refusals 11 to 13 of a record on n devices, whether a callback is open or not; 0 where there is none of them
-- 11: no such kind; 12: no such device, or one other than 0 for a kind about the whole bench; 13: a value beyond its kind's bounds
unfoldable pub fault : ℕ → Rec → ℕ
fault n r =
    when not (leb 1 r.kind and leb r.kind LAST) then 11
    else when leb n r.device or ((kind_of r.kind).whole and not (eqb r.device 0)) then 12
    else when not (allowed r.kind r.value) then 13
    else 0
