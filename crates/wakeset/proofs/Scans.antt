-- The loop over the marks, turn by turn: what holds once the devices below q are passed. Assumes nothing.
use mathlib.Core.Path.{◌≡◌, refl, sym, ◌∙◌, ap}
use mathlib.Core.Bool.{Bool, true, false}
use mathlib.Core.List.{List}
use Prim.Native.Nat.{ℕ, ◌+◌, ◌≤◌}
use native.Mathlib.Omega.{arith}
use native.Mathlib.Numerals.{add-one}
use Rattle.model.specs.Logic.{◌and◌, ◌or◌, any}
use Rattle.model.specs.WakeSet.{marked}
use Rattle.model.specs.Requests.{barred}
use Rattle.model.proofs.Logic.{any_fails}
use Rattle.memory.specs.Layout.{state_in}
use Rattle.wakeset.specs.Marks.{HeardFrom}

pub off : (b : Bool) → (b ≡ true → ⊥) → b ≡ false
off true h = absurd (h refl)
off false h = refl

-- ---- the barred marks
any_more : (f : ℕ → Bool) (n : ℕ) → any f (n + 1) ≡ (f n or any f n)
unfolding any
any_more f n = rw (add-one n)

module _ {bytes words : List ℕ} {ms : List Bool} {low : ℕ} where
  pub heard_start : HeardFrom bytes words ms low low false
  heard_start = record { is = λ l none. sym ((any_fails _ low).1 (λ j b. rw (none j b))) }

  pub heard_more : {q : ℕ} {found : Bool} → low ≤ q → HeardFrom bytes words ms low q found →
      HeardFrom bytes words ms low (q + 1) ((marked ms q and barred (state_in bytes words) q) or found)
  heard_more {q} l h = record { is = λ k none. ap (λ (x : Bool). (marked ms q and barred (state_in bytes words) q) or x) (h.is l none) ∙ sym (any_more _ q) }

  pub heard_end : {t q : ℕ} {found : Bool} → t ≤ q → (low ≤ t → q ≤ t) → HeardFrom bytes words ms low q found → HeardFrom bytes words ms low t found
  heard_end {t} {q} past low-passed h =
      record { is = λ l none. let z = low-passed l in let e : q ≡ t = omega arith in (rw e at h.is) l none }
