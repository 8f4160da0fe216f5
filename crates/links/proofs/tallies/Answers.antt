-- `links::tallies` meets its contract. The invariant: the links passed are counted. Assumes nothing.
use mathlib.Core.Path.{◌≡◌}
use mathlib.Core.List.{[]}
use native.Mathlib.Omega.{arith}
use Rattle.model.specs.Limits.{LINKS}
use Rattle.links.proofs.Summing.{tallied_none, tallied_fits, tallied_more}
use Rattle.links.proofs.tallies.Goals as goal

pub loop-i-init : goal.loop-i-init
loop-i-init c = λ words. tallied_none _

pub overflow_add-first : goal.overflow_add-first
unfolding LINKS
overflow_add-first c =
    let l = c.after-at.ensures.1 in
    let z = tallied_fits _ c.loop-i.i c.loop-i.first c.after-at.result (c.loop-i.invariant []) (omega arith) in
    omega arith

pub loop-i-preserved : goal.loop-i-preserved
loop-i-preserved c =
    let next = c.after-at.ensures in
    λ words. tallied_more _ c.loop-i.i c.loop-i.first _ c.after-at.result (c.loop-i.invariant words) (c.consumer.ensures words) next.0 next.1

-- every link is counted
pub returns : goal.returns
returns c = λ words. let e : c.loop-i.i ≡ c.args.many = omega arith in rw e at (c.loop-i.invariant words)
