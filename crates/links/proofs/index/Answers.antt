-- `links::index` meets its contract. The invariant: the rows up to p are counted up. Assumes nothing.
use mathlib.Core.Path.{refl}
use native.Mathlib.Omega.{arith}
use Rattle.model.specs.Limits.{LINKS, ROWS}
use Rattle.links.proofs.Summing.{summed_none, sum_fits, summed_more, summed_all}
use Rattle.links.proofs.index.Goals as goal

-- more links than a table may have
pub returns-then-many-gt-LINKS : goal.returns-then-many-gt-LINKS
unfolding LINKS ROWS
returns-then-many-gt-LINKS c =
    let e = c.links-many.ensures c.args.bytes.now in
    record { is = λ l. let z = c.if-many-gt-LINKS.true in absurd (omega arith); past = λ l. refl }

pub tallies-first-requires : goal.tallies-first-requires
unfolding LINKS
tallies-first-requires c = let z = c.if-many-gt-LINKS.false in omega arith

pub loop-p-init : goal.loop-p-init
loop-p-init c = summed_none _ _ _ (c.tallies-first.ensures _)

pub overflow_add-first-in-loop-p : goal.overflow_add-first-in-loop-p
unfolding LINKS
overflow_add-first-in-loop-p c =
    let z = sum_fits _ _ c.loop-p.p c.loop-p.first c.loop-p.invariant c.loop-p-test.true in
    let l = c.if-many-gt-LINKS.false in
    omega arith

pub loop-p-preserved : goal.loop-p-preserved
loop-p-preserved c = summed_more _ _ c.loop-p.p c.loop-p.first c.loop-p.invariant c.loop-p-test.true

-- every row is counted up
pub returns : goal.returns
unfolding LINKS
returns c =
    let e = c.links-many.ensures c.args.bytes.now in
    record {
      is = λ l. summed_all _ c.loop-p.p c.loop-p.first (rw e at c.loop-p.invariant) (let z = c.loop-p-test.false in omega arith);
      past = λ l. let z = c.if-many-gt-LINKS.false in absurd (omega arith);
    }
