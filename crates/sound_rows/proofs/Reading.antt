-- What a test of one row tells of the model's test of a column, and a test as a number. Assumes nothing.
use mathlib.Core.Path.{◌≡◌, refl, sym}
use mathlib.Core.Bool.{Bool, true, false, ◌&&◌}
use mathlib.Core.List.{List}
use Prim.Native.Nat.{ℕ, ◌+◌, ◌-◌, ◌<◌, ◌≤◌}
use native.Mathlib.Omega.{arith}
use native.Mathlib.Decide.{dec_lt}
use mir.Val.{bool_byte}
use Rattle.std.specs.Prelude.{min}
use lib.ListN.{length, get_or, get_or-eq_default}
use lib.Dec.{leb, eqb}
use Rattle.model.specs.Logic.{all, bit}
use Rattle.model.specs.SoundTest.{column_test}
use Rattle.model.proofs.Logic.{tests}

-- two tests that pass together are one
bool_eq : (x y : Bool) → (x ≡ true → y ≡ true) → (y ≡ true → x ≡ true) → x ≡ y
bool_eq true y f g = sym (f refl)
bool_eq false true f g = g refl
bool_eq false false f g = refl

-- the rows in use and the others make a column: a page cut where the rows in use end, or where it ends itself
pub column_parts : (rows n most : ℕ) (used rest : List ℕ) {at : ℕ} {col page : List ℕ} {a b : Bool}
    → page ≡ col → length col ≤ rows → at ≡ min n (length page) → length used ≡ at → length rest + at ≡ length page
    → ((k d : ℕ) → k < at → get_or used k d ≡ get_or page k d) → ((k d : ℕ) → get_or rest k d ≡ get_or page (at + k) d)
    → a ≡ all (λ k. leb (get_or used k 0) most) (length used) → b ≡ all (λ k. eqb (get_or rest k 0) 0) (length rest)
    → a && b ≡ column_test rows n most col
unfolding column_test
column_parts rows n most used rest {at} {col} {page} {a} {b} same short cut front back fu fr ea eb =
    rw (← same, ea, eb)
    (bool_eq _ _
    (λ e.
    let (x, y) = simp tests at e in
    simp tests (λ p l. (
      λ k.
          elim (dec_lt p (length page)) [
            | yes h ↦ let z = fu p 0 (omega arith) in let w = x p (omega arith) in omega arith
            | no h ↦ let z = get_or-eq_default page 0 {n = p} (omega arith) in omega arith
          ],
      λ k.
          elim (dec_lt p (length page)) [
            | yes h ↦
                let d = p - at in
                let q : at + d ≡ p = omega arith in
                let z = rw q at (fr d 0) in
                let w = y d (omega arith) in
                omega arith
            | no h ↦ get_or-eq_default page 0 {n = p} (omega arith)
          ],
    )))
    (λ e.
    let f = simp tests at e in
    let fits : length page ≤ rows = rw same short in
    simp tests (
      λ k l. let z = fu k 0 (omega arith) in let w = (f k (omega arith)).0 (omega arith) in omega arith,
      λ k l. let z = fr k 0 in let w = (f (at + k) (omega arith)).1 (omega arith) in omega arith,
    )))

pub byte_bit : (b : Bool) → bool_byte b ≡ bit b
byte_bit true = refl
byte_bit false = refl
