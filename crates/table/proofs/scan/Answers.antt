-- `table::scan` meets its contract. The invariant: the entries passed are good. Assumes nothing.
use mathlib.Core.Path.{◌≡◌, sym, ◌∙◌}
use mathlib.Core.Bool.{true}
use native.Mathlib.Omega.{arith}
use borrow.Author.Tests.{not-true, not-false}
use Rattle.model.specs.Table.{link_fits}
use Rattle.table.proofs.Scanning.{pass_device, pass_link, good_link, misfit, descends, stop_device, stop_link, stop_end}
use Rattle.table.proofs.scan.Goals as goal
use Rattle.table.proofs.scan.Goals.{Else-not-link_fits}

-- that link fits
fits : (c : Else-not-link_fits) → link_fits c.args.t.now c.entries.i ≡ true
fits c = sym c.link_fits.ensures ∙ not-false c.link_fits.result c.if-not-link_fits.false-raw

pub entries-init : goal.entries-init
entries-init c =
    record {
      devices_are = c.byte_at-devices.ensures;
      links_are = c.from-links.ensures ∙ c.byte_at.ensures;
      few = omega arith;
      few_links = omega arith;
      devices = λ k l. absurd (omega arith);
      links = λ k l. absurd (omega arith);
    }

-- a good device
pub entries-preserved-then-p-devices : goal.entries-preserved-then-p-devices
entries-preserved-then-p-devices c =
    let good = sym c.device_good.ensures ∙ not-false c.device_good.result c.if-not-device_good.false-raw in
    pass_device c.entries.invariant c.if-p-devices.true good

-- a good link
pub entries-preserved : goal.entries-preserved
entries-preserved c =
    let rises = sym c.link_ascends.ensures ∙ not-false c.link_ascends.result c.if-not-link_ascends.false-raw in
    pass_link c.entries.invariant c.if-links-i.false (good_link _ _ (fits (goal.at.entries-preserved c).Else-not-link_fits) rises)

-- a device is refused
pub returns-then-not-device_good : goal.returns-then-not-device_good
returns-then-not-device_good c =
    let bad = sym c.device_good.ensures ∙ not-true c.device_good.result c.if-not-device_good.true-raw in
    stop_device c.entries.invariant c.if-p-devices.true bad

-- every entry is good
pub returns-then-links-i : goal.returns-then-links-i
returns-then-links-i c = stop_end c.entries.invariant c.if-p-devices.false c.if-links-i.true

-- a link is refused for its entry
pub returns-then-not-link_fits : goal.returns-then-not-link_fits
returns-then-not-link_fits c =
    let bad = sym c.link_fits.ensures ∙ not-true c.link_fits.result c.if-not-link_fits.true-raw in
    stop_link c.entries.invariant c.if-p-devices.false c.if-links-i.false (misfit _ _ bad)

-- a link is refused for its place in the order
pub returns-then-not-link_ascends : goal.returns-then-not-link_ascends
returns-then-not-link_ascends c =
    let falls = sym c.link_ascends.ensures ∙ not-true c.link_ascends.result c.if-not-link_ascends.true-raw in
    stop_link c.entries.invariant c.if-p-devices.false c.if-links-i.false (descends _ _ (fits (goal.at.returns-then-not-link_ascends c).Else-not-link_fits) falls)
