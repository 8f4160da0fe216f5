-- `list_text::put_entry` meets its contract, by what the line says and the sort asked for. Assumes nothing.
use Rattle.list_text.proofs.Sorts.{none_bytes, fault_bytes, part_bytes_lem, part_passed, link_bytes_lem, link_passed, stored_none, stored_some}
use Rattle.list_text.proofs.put_entry.Goals as goal

-- no line of a list
pub returns-in_default : goal.returns-in_default
returns-in_default c = stored_none _ _ _ _ (fault_bytes _ c.in_default.is)

pub returns-in-Nothing : goal.returns-in-Nothing
returns-in-Nothing c = stored_none _ _ _ _ (none_bytes _ c.in-Ok.is c.in-Nothing.is)

-- a part among links
pub returns-then-link : goal.returns-then-link
returns-then-link c = stored_none _ _ _ _ (part_passed c.in-Ok.is c.in-Part.is c.if-link.true)

-- a part
pub returns-else-link : goal.returns-else-link
returns-else-link c =
    stored_some _ _ _ _ (part_bytes_lem c.in-Ok.is c.in-Part.is c.if-link.false) c.put_bytes.ensures.place c.put_bytes.ensures.buffer

-- a link
pub returns-then-link-2 : goal.returns-then-link-2
returns-then-link-2 c =
    stored_some _ _ _ _ (link_bytes_lem c.in-Ok.is c.in-Link.is c.if-link-2.true)
    c.put_bytes-then-link-2.ensures.place c.put_bytes-then-link-2.ensures.buffer

-- a link among parts
pub returns-else-link-2 : goal.returns-else-link-2
returns-else-link-2 c = stored_none _ _ _ _ (link_passed c.in-Ok.is c.in-Link.is c.if-link-2.false)
