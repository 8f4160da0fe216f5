-- `writer_lists::link_taken` meets its contract. Assumes nothing.
use native.Mathlib.Omega.{arith}
use Rattle.std.specs.Prelude.{nat_eq}
use Rattle.std.proofs.lemmas.Grind.{common_steps}
use Rattle.model.specs.Writing.{pair, repeats, link_taken}
use Rattle.writer_lists.proofs.Searching.{listed}
use Rattle.writer_lists.proofs.link_taken.Goals as goal

-- the link is whole
pub returns-then-link_whole : goal.returns-then-link_whole
unfolding link_taken repeats
returns-then-link_whole c =
    let a = c.args in
    rw (← c.link_whole.ensures, c.if-link_whole.true, ← listed (λ j. nat_eq (pair a.links.now j) (pair a.links.now a.i)) a.i, ← c.repeated.ensures)

-- it is not
pub returns-else-link_whole : goal.returns-else-link_whole
unfolding link_taken
returns-else-link_whole c = grind (arith, common_steps)
