-- The methods by the kinds of their records, the reply as one number. Assumes nothing.
use Rattle.std.specs.Prelude.{◌≡◌, List, [], ◌∷◌, ℕ, ◌+◌, ◌*◌, get_or}
use Rattle.model.specs.Records.{Rec, Reply}
use Rattle.model.specs.Methods.{Requested}
use Rattle.memory.specs.Layout.{state_in}
use Rattle.keeper_bench.specs.Methods.{record_for}

-- from the low byte on: the kind, the device and the code
abbrev pub packed : Reply → ℕ
packed r = r.kind + 256 * r.device + 65536 * r.code

-- the records that the methods make, by their kinds
unfoldable pub methods : ℕ → ℕ → List Rec
methods p v =
    record_for 13 p v ∷ record_for 1 p 0 ∷ record_for 2 p 0 ∷ record_for 3 p 0 ∷ record_for 4 p 0 ∷ record_for 5 p 0 ∷ record_for 6 p 0
    ∷ record_for 7 p 0 ∷ record_for 8 p 0 ∷ record_for 9 p 0 ∷ record_for 10 p 0 ∷ record_for 11 p 0 ∷ record_for 12 p v ∷ []

-- 0, and a kind above 12, stands for the method of results
unfoldable pub method_of : ℕ → ℕ → ℕ → Rec
method_of kind p v = get_or (methods p v) kind (record_for 13 p v)

-- the number of the refusal or the reply, and the bench handed back
pub record CalledIs (q : Requested) (bytes words : List ℕ) (r : ℕ) : Type 0 where
  pub code : r ≡ q.number + packed q.reply
  pub state : state_in bytes words ≡ q.state
