-- `list_text::is_of` meets its contract, by what the line says. Assumes nothing.
use Rattle.list_text.proofs.Sorts.{none_bytes, fault_bytes, none_sort, part_sort, link_sort}
use Rattle.list_text.proofs.is_of.Goals as goal

-- no line of a list
pub returns-in_default : goal.returns-in_default
returns-in_default c = none_sort _ _ (fault_bytes _ c.in_default.is)

pub returns-in-Nothing : goal.returns-in-Nothing
returns-in-Nothing c = none_sort _ _ (none_bytes _ c.in-Ok.is c.in-Nothing.is)

pub returns-in-Part : goal.returns-in-Part
returns-in-Part c = part_sort _ c.in-Ok.is c.in-Part.is

pub returns-in-Link : goal.returns-in-Link
returns-in-Link c = link_sort _ c.in-Ok.is c.in-Link.is
