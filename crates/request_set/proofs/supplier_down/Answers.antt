-- The invariant: no link passed has its supplier down; the links of p are those between two rows of the index. Assumes nothing.
use mathlib.Core.Path.{◌≡◌, sym, ◌∙◌}
use Prim.Native.Nat.{◌≤◌}
use native.Mathlib.Omega.{arith}
use native.Mathlib.Decide.{dec_lt}
use Rattle.model.specs.Limits.{LINKS, ROWS}
use Rattle.request_set.proofs.Downs.{end_low, down_met, down_none}
use Rattle.request_set.proofs.supplier_down.Goals as goal

-- no index leads past the links
pub returns-then-end-gt-LINKS : goal.returns-then-end-gt-LINKS
unfolding LINKS ROWS
returns-then-end-gt-LINKS c =
    record { is = λ words h. let e = c.from-end.ensures in absurd (let u = end_low h c.from-at.result (omega arith) in omega arith) }

pub loop-i-init : goal.loop-i-init
loop-i-init c = λ words j a b. absurd (omega arith)

-- a link of p has its supplier down
pub returns-then-link_down : goal.returns-then-link_down
unfolding ROWS
returns-then-link_down c =
    let x = c.from-begin.ensures in
    let e = c.from-at.ensures in
    let from : c.from-begin.result ≤ c.loop-i.i = omega arith in
    record {
      is =
          λ words h.
          down_met h _ (omega arith) c.loop-i.i (rw (x, e) at from) (rw (c.from-end.ensures, e) at c.loop-i-test.true)
          (sym (c.link_down.ensures words) ∙ c.if-link_down.true);
    }

pub loop-i-preserved : goal.loop-i-preserved
loop-i-preserved c =
    let q = c.loop-i in
    λ words j a b.
    elim (dec_lt j q.i) [
      | yes y ↦ q.invariant words j a y
      | no g ↦ let e : j ≡ q.i = omega arith in rw e (sym (c.link_down.ensures words) ∙ c.if-link_down.false)
    ]

-- none has
pub returns : goal.returns
unfolding ROWS
returns c =
    let q = c.loop-i in
    let e = c.from-at.ensures in
    let x = rw e at c.from-begin.ensures in
    let y = rw e at c.from-end.ensures in
    record { is = λ words h. down_none h _ (omega arith) (λ j a b. q.invariant words j (omega arith) (let z = c.loop-i-test.false in omega arith)) }
