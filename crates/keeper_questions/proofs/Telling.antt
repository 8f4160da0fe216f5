-- How the public questions are answered. Assumes nothing.
use mathlib.Core.Path.{◌≡◌, refl}
use mathlib.Core.Bool.{Bool, true, false, not}
use Prim.Native.Nat.{ℕ}
use native.Mathlib.Omega.{arith}
use native.Mathlib.Decide.{dec_lt}
use lib.Dec.{ltb, leb}
use borrow.Author.Tests.{lt-ltb, le-ltb, lt-leb, le-leb}
use Rattle.std.specs.Prelude.{⊤, Ok, Err}
use Rattle.model.specs.Logic.{◌and◌, ◌or◌}
use Rattle.model.specs.State.{State}
use Rattle.model.specs.Questions.{told}
use Rattle.keeper_answers.specs.declared.Refusal.{Refusal}
use Rattle.keeper_answers.specs.Told.{number_told, Checked}

-- p is below n: n is not at most p
pub below : (p n : ℕ) → ltb p n ≡ not (leb n p)
below p n = elim (dec_lt p n) [ yes l ↦ rw (lt-ltb p n l, lt-leb n p l) | no g ↦ rw (le-ltb p n (omega arith), le-leb n p (omega arith)) ]

-- and both of p and q
neither : (x y : Bool) → (not x and not y) ≡ not (x or y)
neither true y = refl
neither false y = refl

pub both_below : (p q n : ℕ) → (ltb p n and ltb q n) ≡ not (leb n p or leb n q)
both_below p q n = rw (below p n, below q n) (neither (leb n p) (leb n q))

module _ {s : State} {known : Bool} where
  -- what a question answers that is refused, whatever would be told
  pub refused : {r : Refusal} → Checked s known (Err r) → (w : ℕ) → number_told (Err r) ≡ told s known w
  refused k w = k.tells w w (λ h e. refl)

  -- and one that is not, from what it reads
  pub answered : {u : ⊤} {v w : ℕ} → Checked s known (Ok u) → v ≡ w → number_told (Ok v) ≡ told s known w
  answered {v = v} {w = w} k f = k.tells v w (λ h e. f)
