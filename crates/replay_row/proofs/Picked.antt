-- How long the words are that are picked. Assumes nothing.
use Prim.Native.Nat.{ℕ, ◌≤◌}
use native.Mathlib.Omega.{arith}
use lib.Dec.{eqb}
use lib.ListN.{length}
use Rattle.replay_text.specs.Text.{ascii}
use Rattle.replay_text.proofs.Digits.{short_if}
use Rattle.replay_row.specs.Rows.{status_text, sign_text}

pub status_short : (status : ℕ) → length (status_text status) ≤ 10
unfolding ascii status_text
status_short status =
    short_if _ (eqb status 0) _ _ (omega arith)
    (short_if _ (eqb status 1) _ _ (omega arith)
    (short_if _ (eqb status 2) _ _ (omega arith) (short_if _ (eqb status 3) _ _ (omega arith) (omega arith))))

pub sign_short : (magnitude : ℕ) → length (sign_text magnitude) ≤ 1
unfolding ascii sign_text
sign_short magnitude = short_if _ (eqb magnitude 0) _ _ (omega arith) (omega arith)
