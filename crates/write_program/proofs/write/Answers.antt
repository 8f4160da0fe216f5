-- `write_program::write` meets its contract: the buffer has room for the longest table. Assumes nothing.
use native.Mathlib.Omega.{arith}
use Rattle.model.specs.Limits.{DEVICES, LINKS}
use Rattle.write_program.proofs.Making.{made_for}
use Rattle.write_program.proofs.Ending.{list_ends}
use Rattle.write_program.proofs.write.Goals as goal

pub finish-requires : goal.finish-requires
finish-requires g c = made_for _ _ c.make-made.ensures

pub returns : goal.returns
unfolding DEVICES LINKS
returns g c =
    let b = c.buffer-table.ensures in
    list_ends _ _ _ (omega arith) c.make-made.ensures c.finish.ensures
