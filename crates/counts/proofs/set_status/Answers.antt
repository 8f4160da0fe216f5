-- Where the device was powered and stays so, or neither, no count changes; else its parent's count and its suppliers' counts follow, which
-- is a law of `Turning` over states. Assumes nothing.
use mathlib.Core.Path.{◌≡◌, ◌∙◌}
use mathlib.Core.Bool.{true, beq}
use Rattle.counts.proofs.Turning.{row_of, turned_same, turned_indexed, any_same, any_other}
use Rattle.counts.proofs.set_status.Goals as goal

-- no count changes
pub returns-then-old-up : goal.returns-then-old-up
returns-then-old-up c =
    let words = c.args.words.now in
    let equal : beq c.powered-old.result c.powered-up.result ≡ true = c.if-old-up.true in
    let same = rw (c.powered-old.ensures, c.status.ensures words, c.powered-up.ensures) at equal in
    record {
      is = λ h l. rw c.set_status_cell.ensures (turned_same _ _ _ h.ready (row_of h.ready _ l) same);
      any = rw c.set_status_cell.ensures (any_same _ _ _ _ same);
    }

-- the counts follow
pub returns : goal.returns
returns c =
    let words = c.args.words.now in
    let up = c.powered-up.ensures in
    let other = rw (c.powered-old.ensures, c.status.ensures words, up) at c.if-old-up.false in
    let links = c.shift_links.ensures in
    record {
      is = λ h l.
          rw (links, c.shift_child.ensures, c.set_status_cell.ensures, up) (any_other _ _ _ _ other ∙ turned_indexed _ _ _ _ h l other);
      any = rw (links, c.shift_child.ensures, c.set_status_cell.ensures, up) (any_other _ _ _ _ other);
    }
