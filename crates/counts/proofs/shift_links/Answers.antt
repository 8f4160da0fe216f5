-- The invariant: from the first link of p to i, the links are passed, each by a law of `Turning`. An index that leads past the links is none
-- of a sound bench: nothing is done. Assumes nothing.
use mathlib.Core.Path.{◌≡◌, sym, ◌∙◌}
use Prim.Native.Nat.{◌-◌}
use native.Mathlib.Omega.{arith}
use Rattle.model.specs.Limits.{LINKS}
use Rattle.counts.proofs.Turning.{links_none, links_more, links_past, links_within}
use Rattle.counts.proofs.shift_links.Goals as goal

-- the index leads past the links
pub returns-then-end-gt-LINKS : goal.returns-then-end-gt-LINKS
unfolding LINKS
returns-then-end-gt-LINKS c = links_past _ _ _ _ (rw (c.from-end.ensures, c.from-at.ensures) at c.if-end-gt-LINKS.true)

pub loop-i-init : goal.loop-i-init
loop-i-init c = (omega arith, sym (links_none _ _ _))

pub loop-i-preserved : goal.loop-i-preserved
loop-i-preserved c = let loop = c.loop-i in (omega arith, rw (c.shift_link.ensures, loop.invariant.1) (links_more _ _ _ loop.i (omega arith)))

-- every link of p is passed
pub returns : goal.returns
unfolding LINKS
returns c =
    let all : c.loop-i.i - c.from-begin.result ≡ c.from-end.result - c.from-begin.result = omega arith in
    let from = rw c.from-at.ensures at c.from-begin.ensures in
    let to = rw c.from-at.ensures at c.from-end.ensures in
    let fits = rw to at c.if-end-gt-LINKS.false in
    (rw (all, from, to) at c.loop-i.invariant.1) ∙ links_within c.args.first.now _ c.args.p _ fits
