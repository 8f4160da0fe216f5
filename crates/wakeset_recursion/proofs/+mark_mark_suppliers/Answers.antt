-- `wakeset_recursion::mark` and `wakeset_recursion::mark_suppliers` meet their contracts. The measure is the device's number with the links
-- left: a parent or a supplier has a lower number, and the next link leaves one link less. What each exit leaves is a law of `Marking`.
-- Assumes nothing.
use mathlib.Core.Path.{◌≡◌, sym, ◌∙◌}
use mathlib.Core.Bool.{true}
use mathlib.Core.List.{List}
use Prim.Native.Nat.{ℕ}
use native.Mathlib.Omega.{arith}
use borrow.Author.Rules.{rules}
use Rattle.model.specs.Limits.{LINKS}
use Rattle.memory.specs.Layout.{state_in}
use Rattle.wake_rules.specs.Rests.{sleeping_parent, sleeping_supplier}
use Rattle.wakeset_recursion.specs.Recursion.{Marks}
use Rattle.wakeset_recursion.proofs.Marking.{FromParent, AtLink, closed_has, marks_same, marks_whole, marks_links}
use Rattle.wakeset_recursion.proofs.Marking.{parent_lower, parent_asleep, parent_taken, parent_left, links_past, links_none, supplier_lower, supplier_asleep, link_taken_lem, link_left}
use Rattle.wakeset_recursion.proofs.+mark_mark_suppliers.Goals as goal
use Rattle.wakeset_recursion.proofs.+mark_mark_suppliers.Goals.{mark-then-on_parent, mark-else-on_parent, mark_suppliers-then-on_supplier, mark_suppliers-else-on_supplier}

-- ---- mark
-- it is marked
pub mark-returns-then-marks-at : goal.mark-returns-then-marks-at
mark-returns-then-marks-at t c = marks_same (λ words r q f. closed_has r (rw c.from-at.ensures at c.if-marks-at.true) f)

-- its parent's number is lower, and the parent sleeps
pub mark-mark-requires : goal.mark-mark-requires
unfolding LINKS
mark-mark-requires t c =
    let is = c.parent.ensures in
    let bytes = c.args.bytes.now in
    let p = c.args.p in
    let rests : (words : List ℕ) → sleeping_parent (state_in bytes words) p ≡ true = λ words. sym (c.on_parent.ensures words) ∙ c.if-on_parent.true in
    let lower = parent_lower bytes p is rests in
    let measure = c.decreases in
    (omega arith, parent_asleep bytes p is rests)

-- the whole set is marked, the device last
pub mark-returns : goal.mark-returns
mark-returns t c =
    let told = c.on_parent.ensures in
    let a = c.args in
    let met : Marks (FromParent a.p) a.bytes.now a.first.now a.p a.marks.now c.if-on_parent.marks =
    elim c.if-on_parent.branch [
      | mark-then-on_parent w ↦ rw w.marks-is (parent_taken w.parent.ensures (λ words. sym (told words) ∙ w.if-on_parent.true) w.mark.ensures)
      | mark-else-on_parent w ↦ rw w.marks-is (parent_left (λ words. sym (told words) ∙ w.if-on_parent.false))
    ] in
    let row = c.from-at.ensures in
    let links = rw (c.from.ensures, row) at c.mark_suppliers.ensures in
    rw row (marks_whole (omega arith) c.requires met links)

-- ---- mark_suppliers
-- no link of the table is left
pub mark_suppliers-returns-then-k-ge-LINKS : goal.mark_suppliers-returns-then-k-ge-LINKS
unfolding LINKS
mark_suppliers-returns-then-k-ge-LINKS t c = links_past (omega arith) c.if-k-ge-LINKS.true

-- no link of p is left
pub mark_suppliers-returns-then-from-k : goal.mark_suppliers-returns-then-from-k
mark_suppliers-returns-then-from-k t c = links_none (rw (c.from.ensures, c.from-next.ensures) at c.if-from-k.true)

-- the supplier's number is lower, and the supplier sleeps
pub mark_suppliers-mark-requires : goal.mark_suppliers-mark-requires
unfolding LINKS
mark_suppliers-mark-requires t c =
    let is = c.supplier.ensures in
    let bytes = c.args.bytes.now in
    let p = c.args.p in
    let k = c.args.k in
    let rests : (words : List ℕ) → sleeping_supplier (state_in bytes words) p k ≡ true = λ words. sym (c.on_supplier.ensures words) ∙ c.if-on_supplier.true in
    let lower = supplier_lower bytes p k is rests in
    let measure = c.decreases in
    (omega arith, supplier_asleep bytes p k is rests)

-- one link less is left
pub mark_suppliers-mark_suppliers-requires : goal.mark_suppliers-mark_suppliers-requires
unfolding LINKS
mark_suppliers-mark_suppliers-requires t c =
    let left = c.if-k-ge-LINKS.false in
    let measure = c.decreases in
    (omega arith, search rules)

-- the link and the others are followed
pub mark_suppliers-returns : goal.mark_suppliers-returns
mark_suppliers-returns t c =
    let told = c.on_supplier.ensures in
    let a = c.args in
    let met : Marks (AtLink a.p a.k) a.bytes.now a.first.now a.p a.marks.now c.if-on_supplier.marks =
    elim c.if-on_supplier.branch [
      | mark_suppliers-then-on_supplier w ↦ rw w.marks-is (link_taken_lem _ w.supplier.ensures (λ words. sym (told words) ∙ w.if-on_supplier.true) w.mark.ensures)
      | mark_suppliers-else-on_supplier w ↦ rw w.marks-is (link_left (λ words. sym (told words) ∙ w.if-on_supplier.false))
    ] in
    let left = rw (c.from.ensures, c.from-next.ensures) at c.if-from-k.false in
    marks_links a.k left met c.mark_suppliers.ensures
