-- A part of a list replaced whole, by its two ends, as the code lends it: the cells are laid at their place. Assumes nothing.
use mathlib.Core.Path.{◌≡◌, sym, ◌∙◌}
use mathlib.Core.List.{List, ◌++◌, append-nil}
use Prim.Native.Nat.{ℕ, ◌+◌, ◌-◌, ◌≤◌}
use native.Mathlib.Omega.{arith}
use lib.ListN.{length, take, drop, length-append, length-take, length-drop, drop_of_length-le}
use lib.Seq.{drop-drop}
use Rattle.model.specs.Feed.{over}
use Rattle.saved_form.specs.Restoring.{laid}

-- as many cells as there are
pub replaced : (cells part : List ℕ) → length cells ≡ length part → over cells part ≡ cells
replaced cells part e = rw (drop_of_length-le part {i = length cells} (omega arith)) (append-nil cells)

pub again : (a b : ℕ) → a + b - a ≡ b
again a b = omega arith

module _ (xs : List ℕ) (to n : ℕ) (room : to + n ≤ length xs) where
  pub part_long : length (take (to + n - to) (drop to xs)) ≡ n
  part_long = length-take (to + n - to) (drop to xs) ∙ (let z = length-drop to xs in omega arith)

  pub laid_part : (cells ys : List ℕ) → length cells ≡ n → ys ≡ over cells (take (to + n - to) (drop to xs))
      → take to xs ++ (ys ++ drop (to + n - to) (drop to xs)) ≡ laid xs to cells
  unfolding laid
  laid_part cells ys many e =
      rw (e, replaced cells (take (to + n - to) (drop to xs)) (many ∙ sym part_long), again to n, drop-drop n to xs, many)

-- a part copied whole, as the code lends it
pub laid_put : (xs : List ℕ) (at n : ℕ) (cells ys : List ℕ) → length cells ≡ n → ys ≡ cells → take at xs ++ (ys ++ drop (at + n - at) (drop at xs)) ≡ laid xs at cells
unfolding laid
laid_put xs at n cells ys many e = rw (e, again at n, drop-drop n at xs, many)

-- the length stays
pub laid_long : (xs cells : List ℕ) (to n : ℕ) → length cells ≡ n → to + n ≤ length xs → length (laid xs to cells) ≡ length xs
unfolding laid
laid_long xs cells to n e h = simp (length-append, length-take, length-drop) (omega arith)
