-- `replay_row::sign` meets its contract. Assumes nothing.
use borrow.Author.Tests.{ne_eqb}
use Rattle.model.specs.Logic.{when◌then◌else◌}
use Rattle.replay_text.specs.Text.{ascii}
use Rattle.replay_row.specs.Rows.{sign_text}
use Rattle.replay_row.proofs.sign.Goals as goal

pub returns-then-magnitude-eq0 : goal.returns-then-magnitude-eq0
unfolding ascii sign_text when◌then◌else◌
returns-then-magnitude-eq0 c = rw c.if-magnitude-eq0.true c.word.ensures

pub returns : goal.returns
unfolding ascii sign_text when◌then◌else◌
returns c = rw (ne_eqb _ 0 c.if-magnitude-eq0.false) c.word-2.ensures
