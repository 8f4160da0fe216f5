-- `writer_lists::judge` meets its contract: each exit is the first of the tests that fails, and past the last none has. Assumes nothing.
use mathlib.Core.Path.{◌≡◌, sym, ◌∙◌}
use mathlib.Core.Bool.{true}
use Rattle.model.specs.Limits.{DEVICES, LINKS}
use Rattle.model.specs.Writing.{devices_given, links_given, counts_good}
use Rattle.writer_lists.proofs.Answers.{beyond, within, devices_up, links_up, over, bad_device_lem, bad_link_lem, good}
use Rattle.writer_lists.proofs.judge.Goals as goal
use Rattle.writer_lists.proofs.judge.Goals.{Else-n-from}

-- ---- 4: no device, too many devices, too many links
pub returns-then-n-from : goal.returns-then-n-from
unfolding DEVICES LINKS
returns-then-n-from c =
    let a = c.args in
    over a.devices.now a.links.now (rw (← devices_up a.devices.now, ← links_up a.links.now, ← c.div_ceil-n.ensures, ← c.div_ceil-m.ensures) (beyond _ _ (rw c.from.ensures at c.if-n-from.true)))

-- past the limits
counts : (c : Else-n-from) → counts_good (devices_given c.args.devices.now) (links_given c.args.links.now) ≡ true
unfolding DEVICES LINKS
counts c = rw (← devices_up c.args.devices.now, ← links_up c.args.links.now, ← c.div_ceil-n.ensures, ← c.div_ceil-m.ensures) (within _ _ (rw c.from.ensures at c.if-n-from.false))

-- ---- 6: a faulty device
pub returns-in-Some : goal.returns-in-Some
returns-in-Some c =
    let a = c.args in
    bad_device_lem a.devices.now a.links.now (counts (goal.at.returns-in-Some c).Else-n-from) _ _
    (c.div_ceil-n.ensures ∙ devices_up a.devices.now) (sym c.faulty_device.ensures ∙ c.in-Some.is)

-- ---- 7: a faulty link
pub returns-in-Some-faulty_link : goal.returns-in-Some-faulty_link
returns-in-Some-faulty_link c =
    let a = c.args in
    bad_link_lem a.devices.now a.links.now (counts (goal.at.returns-in-Some-faulty_link c).Else-n-from) _ (c.div_ceil-n.ensures ∙ devices_up a.devices.now)
    (sym c.faulty_device.ensures ∙ c.in_default.is) _ (c.div_ceil-m.ensures ∙ links_up a.links.now) _ (sym c.faulty_link.ensures ∙ c.in-Some-faulty_link.is)

-- ---- none of these
pub returns : goal.returns
returns c =
    let a = c.args in
    good a.devices.now a.links.now (counts (goal.at.returns c).Else-n-from) _ (c.div_ceil-n.ensures ∙ devices_up a.devices.now)
    (sym c.faulty_device.ensures ∙ c.in_default.is) _ (c.div_ceil-m.ensures ∙ links_up a.links.now) (sym c.faulty_link.ensures ∙ c.in_default-faulty_link.is)
