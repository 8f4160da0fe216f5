-- The parent first, then the links. The invariant: the suppliers of the links passed are marked where p rests on them and they sleep.
-- Assumes nothing.
use mathlib.Core.Path.{◌≡◌, ◌∙◌}
use mathlib.Core.List.{List}
use Prim.Native.Nat.{ℕ, ◌<◌, ◌≤◌}
use native.Mathlib.Omega.{arith}
use lib.ListN.{get_or}
use Rattle.model.specs.Limits.{ROWS}
use Rattle.memory.specs.Layout.{state_in}
use Rattle.links.specs.Firsts.{Listed}
use Rattle.wakeset.proofs.Resting.{own_link}
use Rattle.wakeset.proofs.Adding.{adds_then, among_none, among_more, among_end}
use Rattle.wakeset.proofs.pass.Goals as goal
use Rattle.wakeset.proofs.pass.Goals.{In-loop-i}

-- no link is passed
pub loop-i-init : goal.loop-i-init
loop-i-init c = (omega arith, λ words long. among_none)

-- one link more
pub loop-i-preserved : goal.loop-i-preserved
unfolding ROWS
loop-i-preserved c = (
  omega arith,
  λ words long.
      let j = c.loop-i.invariant.1 words long in
      among_more _ c.loop-i.i (omega arith) j (rw (c.on_supplier.ensures words, c.supplier.ensures words) at (c.mark-least-in-loop-i.ensures (j.long ∙ long))),
)

-- the parent and the links are all that follow p
pub returns : goal.returns
unfolding ROWS
returns c =
    record {
      is =
          λ words long.
          let above = rw (c.on_parent.ensures words, c.parent.ensures words) at (c.mark-least.ensures long) in
          let links = among_end c.from-begin.result c.loop-i.i c.from-end.result (omega arith) (omega arith) c.loop-i.invariant.0 (c.loop-i.invariant.1 words (above.long ∙ long)) in
          adds_then above (rw (c.from-begin.ensures, c.from-end.ensures, c.from-at.ensures) at links);
    }

-- each link that is looked at is p's own, where the index is right; the next turn looks at a later one, so each is looked at once
pub own : (c : In-loop-i) → let a = c.args in
    (words : List ℕ) → let w = (state_in a.bytes.now words).wiring in
    Listed w a.first.now → (c.loop-i.i < w.m) × (get_or w.consumer c.loop-i.i 0 ≡ a.p)
unfolding ROWS
own c words h =
    let row = c.from-at.ensures in
    let from : c.from-begin.result ≤ c.loop-i.i = omega arith in
    own_link h _ (omega arith) c.loop-i.i (rw (c.from-begin.ensures, row) at from) (rw (c.from-end.ensures, row) at c.loop-i-test.true)
