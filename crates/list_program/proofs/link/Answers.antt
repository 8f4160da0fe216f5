-- `list_program::link` meets its contract. Assumes nothing.
use Rattle.list_program.proofs.Told.{link_told}
use Rattle.list_program.proofs.link.Goals as goal

pub returns : goal.returns
returns c =
    link_told _ _ c.link_line.ensures c.link_byte-consumer.ensures c.link_byte-supplier.ensures c.link_byte.ensures
