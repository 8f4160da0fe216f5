-- The constant table is the model's column; past its end the model has a plain kind. Assumes nothing.
use mathlib.Core.Bool.{false}
use lib.ListN.{get_or-eq_default}
use borrow.Author.Tests.{eq-eqb, ne_eqb, le-leb}
use Rattle.model.specs.Steps.{busy}
use Rattle.record_kinds.specs.Kinds.{always_table}
use Rattle.record_kinds.proofs.Signs.{always_at}
use Rattle.record_kinds.proofs.busy.Goals as goal

-- one is open, and there is no such kind
pub returns-then-from-ge-KINDS : goal.returns-then-from-ge-KINDS
unfolding busy
returns-then-from-ge-KINDS c =
    λ words.
    let far = rw c.from.ensures at c.if-from-ge-KINDS.true in
    rw (← c.callback.ensures words, ne_eqb c.callback.result 0 c.if-callback-ne0.true, le-leb 14 _ c.if-from-ge-KINDS.true, always_at _, get_or-eq_default always_table false far)

-- one is open
pub returns-else-from-ge-KINDS : goal.returns-else-from-ge-KINDS
unfolding busy
returns-else-from-ge-KINDS c =
    λ words. rw (← c.callback.ensures words, ne_eqb c.callback.result 0 c.if-callback-ne0.true, c.from-else-from-ge-KINDS.ensures, always_at _)

-- none is open
pub returns-else-callback-ne0 : goal.returns-else-callback-ne0
unfolding busy
returns-else-callback-ne0 c = λ words. rw (← c.callback.ensures words, eq-eqb c.callback.result 0 c.if-callback-ne0.false)
