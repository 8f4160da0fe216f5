-- `list_program::device` meets its contract. Assumes nothing.
use Rattle.list_program.proofs.Told.{device_told}
use Rattle.list_program.proofs.device.Goals as goal

pub returns : goal.returns
returns c =
    device_told _ _ c.part_line.ensures c.device_byte.ensures c.device_byte-2.ensures
