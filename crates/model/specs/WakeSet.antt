-- The wake set ("The state of a part"): for a reader the least set, and the marks that compute it. `proofs/WakeSet.antt` has that
-- they agree. Assumes nothing.
use Rattle.std.specs.Prelude.{◌≡◌, Bool, true, false, List, ℕ, zero, suc, ◌<◌, ◌≤◌, ◌%◌, get_or, set, replicate, eqb}
use Rattle.model.specs.Limits.{ROWS, NONE}
use Rattle.model.specs.Logic.{◌and◌, ◌or◌, any, first}
use Rattle.model.specs.Table.{Wiring}
use Rattle.model.specs.State.{State, ACTIVE, sleeping}

-- ---- the least set
abbrev pub Sleeping : List ℕ → ℕ → Type 0
Sleeping status p = get_or status p 0 < ACTIVE

-- p rests directly on q: q is its parent and counts its children, or its supplier by a runtime link
pub data Needs (w : Wiring) (p q : ℕ) : Type 0 where
  child : get_or w.parent p 0 ≡ q → (q ≡ NONE → ⊥) → get_or w.ignore q 0 ≡ 0 → Needs w p q
  link : (i : ℕ) → i < w.m → get_or w.consumer i 0 ≡ p → get_or w.supplier i 0 ≡ q → get_or w.flags i 0 % 2 ≡ 1 → Needs w p q

-- "wake set": the least set that has the sleeping device t, and with each device the sleeping ones that it rests on
pub data InWake (w : Wiring) (status : List ℕ) (t : ℕ) : ℕ → Type 0 where
  self : Sleeping status t → InWake w status t t
  next : {p q : ℕ} → InWake w status t p → Needs w p q → Sleeping status q → InWake w status t q

-- l is the lowest member of t's wake set
pub record Lowest (w : Wiring) (status : List ℕ) (t l : ℕ) : Type 0 where
  pub member : InWake w status t l
  pub least : (q : ℕ) → InWake w status t q → l ≤ q

-- the members that are reached by falling numbers; where the table's rules hold these are all members, and the marks are theirs for
-- any columns at all
pub data Falls (w : Wiring) (status : List ℕ) (t : ℕ) : ℕ → Type 0 where
  here : Sleeping status t → Falls w status t t
  down_to : {p q : ℕ} → Falls w status t p → Needs w p q → q < p → Sleeping status q → Falls w status t q

-- ---- the marks
abbrev pub marked : List Bool → ℕ → Bool
marked ms p = get_or ms p false

abbrev pub On : List Bool → ℕ → Type 0
On ms p = marked ms p ≡ true

-- some marked device has the parent q
unfoldable pub marks_child : Wiring → List Bool → ℕ → Bool
marks_child w ms q = any (λ p. eqb (get_or w.parent p 0) q and marked ms p) w.n

-- some runtime link leads from a marked consumer to q
unfoldable pub marks_consumer : Wiring → List Bool → ℕ → Bool
marks_consumer w ms q = any (λ i. eqb (get_or w.supplier i 0) q and eqb (get_or w.flags i 0 % 2) 1 and marked ms (get_or w.consumer i 0)) w.m

-- whether q is a member of t's wake set, where the marks of the devices above q are right
unfoldable pub belongs : Wiring → List ℕ → ℕ → List Bool → ℕ → Bool
belongs w status t ms q = sleeping (get_or status q 0) and (eqb q t or (eqb (get_or w.ignore q 0) 0 and marks_child w ms q) or marks_consumer w ms q)

-- the devices below k from the highest down, each marked where it belongs
unfoldable pub sweep : Wiring → List ℕ → ℕ → ℕ → List Bool → List Bool
sweep w status t zero ms = ms
sweep w status t (suc q) ms = sweep w status t q (set ms q (belongs w status t ms q))

-- the marks of t's wake set, one for each row
unfoldable pub wake_marks : Wiring → List ℕ → ℕ → List Bool
wake_marks w status t = sweep w status t w.n (replicate ROWS false)

-- q is a member of t's wake set
unfoldable pub in_wake : State → ℕ → ℕ → Bool
in_wake s t q = marked (wake_marks s.wiring s.devices.status t) q

-- the lowest member of t's wake set; n where it has none
unfoldable pub lowest : State → ℕ → ℕ
lowest s t = first (in_wake s t) s.wiring.n
