-- How long the word of a parent is. Assumes nothing.
use Prim.Native.Nat.{ℕ, ◌≤◌}
use native.Mathlib.Omega.{arith}
use lib.Dec.{eqb}
use lib.ListN.{length}
use Rattle.replay_text.specs.Text.{ascii}
use Rattle.replay_text.proofs.Digits.{short_if, decimal_length}
use Rattle.list_print.specs.Lines.{parent_text}

pub parent_short : (parent : ℕ) → length (parent_text parent) ≤ 20
unfolding ascii parent_text
parent_short parent = short_if _ (eqb parent 255) _ _ (omega arith) (decimal_length parent)
