-- `list_make::refused_line` meets its contract: 6 stands in the line of its device, 7 in that of its link. Assumes nothing.
use Rattle.list_make.proofs.Telling.{of_device, of_link, past_limits, no_room}
use Rattle.list_make.proofs.refused_line.Goals as goal

pub returns-in-Device : goal.returns-in-Device
returns-in-Device c = of_device _ c.in-Device.is c.from.ensures c.line_of.ensures

pub returns-in-Link : goal.returns-in-Link
returns-in-Link c = of_link _ c.in-Link.is c.from-in-Link.ensures c.line_of-in-Link.ensures

pub returns-in-Limits : goal.returns-in-Limits
returns-in-Limits c = past_limits _ c.in-Limits.is c.over_line.ensures

pub returns-in-Room : goal.returns-in-Room
returns-in-Room c = no_room _ c.in-Room.is c.over_line-in-Room.ensures
