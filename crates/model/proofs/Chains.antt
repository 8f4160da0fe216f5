-- A chain of tests that returns false at the first failure, and a right-nested `and`. Assumes nothing.
use mathlib.Core.Path.{◌≡◌, sym, ◌∙◌}
use mathlib.Core.Bool.{Bool, true, false, not}
use borrow.Author.Tests.{not-true, not-false}
use Rattle.model.specs.Logic.{◌and◌}

pub and_go : {x y r : Bool} → x ≡ true → r ≡ y → r ≡ x and y
and_go {x} {y} {r} e h = rw e h

pub and_stop : {x : Bool} (y : Bool) → x ≡ false → false ≡ x and y
and_stop {x} y e = rw e

-- a test b that a function made
pub passed : {b x : Bool} → b ≡ x → not b ≡ false → x ≡ true
passed {b} e h = sym e ∙ not-false b h

pub failed : {b x : Bool} → b ≡ x → not b ≡ true → x ≡ false
failed {b} e h = sym e ∙ not-true b h
