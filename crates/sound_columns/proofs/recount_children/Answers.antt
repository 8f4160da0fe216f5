-- `sound_columns::recount_children` meets its contract. The invariant: the tallies of the devices passed. Assumes nothing.
use mathlib.Core.Path.{◌≡◌, ◌∙◌, ap}
use mathlib.Core.List.{[]}
use Prim.Native.Nat.{◌+◌, ◌≤◌}
use native.Mathlib.Omega.{arith}
use Rattle.model.specs.Limits.{ROWS}
use Rattle.model.specs.State.{children_of, child_count}
use Rattle.model.proofs.Tallies.{tallied_none, tallied_one, tallied_all, tallied_low}
use Rattle.sound_columns.proofs.Reading.{child_low, child_adds, last}
use Rattle.sound_columns.proofs.recount_children.Goals as goal

pub loop-k-init : goal.loop-k-init
unfolding ROWS
loop-k-init c = λ words. tallied_none _ _ ROWS

-- a count is below the number of devices passed
pub overflow_add-counts : goal.overflow_add-counts
unfolding ROWS
overflow_add-counts c =
    let l = tallied_low (c.loop-k.invariant []) c.from.result (omega arith) in
    let b : c.child_bit.result ≤ 1 = rw c.child_bit.ensures (child_low _ _) in
    omega arith

pub loop-k-preserved : goal.loop-k-preserved
unfolding ROWS
loop-k-preserved c =
    λ words.
    tallied_one c.from.result _ (c.loop-k.invariant words) (c.from.ensures ∙ c.parent-parent.ensures words) (omega arith)
    (ap (◌+◌ _) (child_adds _ _ _ (c.parent-parent.ensures words) (c.status.ensures words) c.child_bit.ensures))

pub returns : goal.returns
unfolding ROWS children_of child_count
returns c =
    let end = c.loop-k in
    record { is = λ words e. let f : end.k ≡ _ = last _ _ _ (omega arith) (omega arith) e in tallied_all (rw f at (end.invariant words)) }
