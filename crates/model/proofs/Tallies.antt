-- A column of tallies, filled entry by entry. Assumes nothing.
use mathlib.Core.Path.{◌≡◌, refl, sym, ◌∙◌}
use mathlib.Core.Bool.{Bool, true, false}
use mathlib.Core.List.{List}
use Prim.Native.Nat.{ℕ, zero, suc, ◌+◌, ◌<◌, ◌≤◌}
use native.Mathlib.Omega.{arith}
use native.Mathlib.Numerals.{add-one}
use native.Mathlib.Decide.{ℕ_discrete}
use lib.ListN.{length, get_or, set, replicate, length-set, length-replicate, get_or-replicate}
use lib.Seq.{get_or-set_same, get_or-set_other, ext_get_or}
use lib.Dec.{eqb}
use borrow.Author.Tests.{eq-eqb, ne_eqb}
use Rattle.model.specs.Logic.{◌and◌, bit, count, tally, column}
use Rattle.model.proofs.Counting.{at_column, length_column}

-- the tallies of the first k entries
pub record Tallied (on : ℕ → Bool) (key : ℕ → ℕ) (rows k : ℕ) (col : List ℕ) : Type 0 where
  pub long : length col ≡ rows
  pub done : (q : ℕ) → q < rows → get_or col q 0 ≡ tally on key k q

pub bit_low : (b : Bool) → bit b ≤ 1
bit_low true = omega arith
bit_low false = omega arith

tally_low : (on : ℕ → Bool) (key : ℕ → ℕ) (k q : ℕ) → tally on key k q ≤ k
unfolding tally count
tally_low on key zero q = omega arith
tally_low on key (suc k) q = let z = tally_low on key k q in let y = bit_low (on k and eqb (key k) q) in omega arith

tally_one : (on : ℕ → Bool) (key : ℕ → ℕ) (k q : ℕ) → tally on key (k + 1) q ≡ tally on key k q + bit (on k and eqb (key k) q)
unfolding tally count
tally_one on key k q = rw (add-one k)

and_true : (x y : Bool) → y ≡ true → x and y ≡ x
and_true true y e = e
and_true false y e = refl

and_false : (x y : Bool) → y ≡ false → x and y ≡ false
and_false true y e = e
and_false false y e = refl

pub tallied_low : {on : ℕ → Bool} {key : ℕ → ℕ} {rows k : ℕ} {col : List ℕ} → Tallied on key rows k col → (q : ℕ) → q < rows → get_or col q 0 ≤ k
tallied_low {on} {key} {k = k} h q l = let z = h.done q l in let y = tally_low on key k q in omega arith

pub tallied_none : (on : ℕ → Bool) (key : ℕ → ℕ) (rows : ℕ) → Tallied on key rows 0 (replicate rows 0)
unfolding tally count
tallied_none on key rows = record { long = length-replicate rows 0; done = λ q l. get_or-replicate rows q 0 0 l }

pub tallied_one :
    {on : ℕ → Bool} {key : ℕ → ℕ} {rows k : ℕ} {col : List ℕ} (q v : ℕ) → Tallied on key rows k col
    → q ≡ key k → q < rows → v ≡ get_or col q 0 + bit (on k) → Tallied on key rows (k + 1) (set col q v)
tallied_one {on} {key} {rows} {k} {col} q v h e l f =
    let g = h.long in
    record {
      long = length-set col q v ∙ g;
      done =
          λ p b.
          elim (ℕ_discrete p q) [
            | yes z ↦ rw (z, get_or-set_same col q v 0 (omega arith), tally_one on key k q, and_true (on k) (eqb (key k) q) (eq-eqb _ _ (sym e)), f, h.done q l)
            | no ne ↦ rw (get_or-set_other col q p v 0 ne, tally_one on key k p, and_false (on k) (eqb (key k) p) (ne_eqb _ _ (λ y. ne (sym y ∙ sym e))), h.done p b) (omega arith)
          ];
    }

pub tallied_all : {on : ℕ → Bool} {key : ℕ → ℕ} {rows k : ℕ} {col : List ℕ} → Tallied on key rows k col → col ≡ column (tally on key k) rows
tallied_all {on} {key} {rows} {k} {col} h =
    ext_get_or 0 col (column (tally on key k) rows) (h.long ∙ sym (length_column _ rows))
    (λ i l. let g = h.long in h.done i (omega arith) ∙ sym (at_column (tally on key k) rows i (omega arith)))
