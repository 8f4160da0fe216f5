-- The numbers below 256, printed and read again: by computation over all of them. Assumes nothing.
use mathlib.Core.Path.{◌≡◌, refl, ap}
use mathlib.Core.Bool.{Bool, true, false}
use Rattle.std.specs.Prelude.{Result, Ok, Err}
use Rattle.list_lines.specs.declared.entries.Fault.{Fault}
use mathlib.Core.List.{List}
use Prim.Native.Nat.{ℕ, ◌<◌}
use lib.Dec.{eqb}
use borrow.Author.Tests.{eqb-true}
use Rattle.model.specs.Logic.{when◌then◌else◌, ◌and◌, all}
use Rattle.model.proofs.Logic.{and_iff, all_iff}
use Rattle.replay_text.specs.Text.{ascii, digits_up_to, decimal}
use Rattle.replay_text.specs.Sizes.{is_digit, all_digits, value_after}
use Rattle.list_words.specs.Words.{is_blank}
use Rattle.list_lines.specs.Numbers.{capped, number_in, parent_in}
use Rattle.list_print.specs.Lines.{parent_text}
use Rattle.list_print.proofs.Spaced.{uncut, solid}

-- a number's text is a word, and reads as the number
is_number : Result ℕ Fault → ℕ → Bool
is_number (Ok x) n = eqb x n
is_number (Err f) n = false

test : (ℕ → List ℕ) → (List ℕ → Result ℕ Fault) → ℕ → Bool
test text read n = solid (text n) and is_number (read (text n)) n

numbers : all (test decimal number_in) 256 ≡ true
unfolding all test is_number solid uncut is_blank when◌then◌else◌ decimal digits_up_to number_in all_digits is_digit value_after capped
numbers = refl

parents : all (test parent_text parent_in) 256 ≡ true
unfolding all test is_number solid uncut is_blank when◌then◌else◌ decimal digits_up_to number_in all_digits is_digit value_after capped parent_text parent_in ascii
parents = refl

-- what the test says of each number
pub record Told (text : ℕ → List ℕ) (read : List ℕ → Result ℕ Fault) (n : ℕ) : Type 0 where
  pub word : solid (text n) ≡ true
  pub back : read (text n) ≡ Ok n

number_is : (r : Result ℕ Fault) (n : ℕ) → is_number r n ≡ true → r ≡ Ok n
unfolding is_number
number_is (Ok x) n e = ap Ok (eqb-true x n e)
number_is (Err f) n e = cc

told : (text : ℕ → List ℕ) (read : List ℕ → Result ℕ Fault) → all (test text read) 256 ≡ true → (n : ℕ) → n < 256 → Told text read n
unfolding test
told text read e n h =
    let g = (and_iff (solid (text n)) (is_number (read (text n)) n)).0 ((all_iff (test text read) 256).0 e n h) in
    record { word = g.0; back = number_is (read (text n)) n g.1 }

pub number_told_lem : (n : ℕ) → n < 256 → Told decimal number_in n
number_told_lem n h = told decimal number_in numbers n h

pub parent_told : (n : ℕ) → n < 256 → Told parent_text parent_in n
parent_told n h = told parent_text parent_in parents n h
