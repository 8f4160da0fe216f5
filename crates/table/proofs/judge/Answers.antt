-- `table::judge` meets its contract. Assumes nothing.
use native.Mathlib.Omega.{arith}
use Rattle.std.proofs.lemmas.Grind.{common_steps}
use Rattle.model.specs.Logic.{when◌then◌else◌}
use Rattle.model.specs.Table.{table_answer}
use Rattle.table.proofs.judge.Goals as goal

pub returns-then-t-lt7 : goal.returns-then-t-lt7
unfolding table_answer when◌then◌else◌
returns-then-t-lt7 c = grind (arith, common_steps)

pub returns-then-not-mark_good : goal.returns-then-not-mark_good
unfolding table_answer when◌then◌else◌
returns-then-not-mark_good c = grind (arith, common_steps)

pub returns-then-not-version_good : goal.returns-then-not-version_good
unfolding table_answer when◌then◌else◌
returns-then-not-version_good c = grind (arith, common_steps)

pub returns-then-not-limits_good : goal.returns-then-not-limits_good
unfolding table_answer when◌then◌else◌
returns-then-not-limits_good c = grind (arith, common_steps)

pub returns-then-not-length_good : goal.returns-then-not-length_good
unfolding table_answer when◌then◌else◌
returns-then-not-length_good c = grind (arith, common_steps)

pub returns : goal.returns
unfolding table_answer when◌then◌else◌
returns c = grind (arith, common_steps)
