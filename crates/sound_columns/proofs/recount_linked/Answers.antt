-- `sound_columns::recount_linked` meets its contract. The invariant: the tallies of the links passed. Assumes nothing.
use mathlib.Core.Path.{◌≡◌, ◌∙◌, ap}
use mathlib.Core.List.{[]}
use Prim.Native.Nat.{◌+◌, ◌≤◌}
use native.Mathlib.Omega.{arith}
use Rattle.model.specs.Limits.{ROWS, LINKS}
use Rattle.model.specs.State.{linked_of, link_count}
use Rattle.model.proofs.Tallies.{tallied_none, tallied_one, tallied_all, tallied_low}
use Rattle.sound_columns.proofs.Reading.{live_low, live_adds, last}
use Rattle.sound_columns.proofs.recount_linked.Goals as goal

pub loop-k-init : goal.loop-k-init
unfolding ROWS
loop-k-init c = λ words. tallied_none _ _ ROWS

-- a count is below the number of links passed
pub overflow_add-counts : goal.overflow_add-counts
unfolding ROWS LINKS
overflow_add-counts c =
    let l = tallied_low (c.loop-k.invariant []) c.from.result (omega arith) in
    let b : c.live_bit.result ≤ 1 = rw c.live_bit.ensures (live_low _ _) in
    omega arith

pub loop-k-preserved : goal.loop-k-preserved
unfolding ROWS LINKS
loop-k-preserved c =
    λ words.
    tallied_one c.from.result _ (c.loop-k.invariant words) (c.from.ensures ∙ c.supplier-supplier.ensures words) (omega arith)
    (ap (◌+◌ _) (live_adds _ _ _ (c.consumer-consumer.ensures words) (c.status-status.ensures words) (c.flags.ensures words) c.live_bit.ensures))

pub returns : goal.returns
unfolding ROWS LINKS linked_of link_count
returns c =
    let end = c.loop-k in
    record { is = λ words e. let f : end.k ≡ _ = last _ _ _ (omega arith) (omega arith) e in tallied_all (rw f at (end.invariant words)) }
