-- The constant table is the model's column. Assumes nothing.
use Rattle.record_kinds.proofs.Signs.{whole_at}
use Rattle.record_kinds.proofs.misplaced.Goals as goal

pub returns : goal.returns
returns c = rw (c.from.ensures, whole_at)
