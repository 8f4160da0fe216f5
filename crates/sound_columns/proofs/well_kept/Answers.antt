-- `sound_columns::well_kept` meets its contract: the counts in their ranges, then the wiring and the devices' state. Assumes nothing.
use mathlib.Core.Path.{sym}
use native.Mathlib.Omega.{arith}
use Rattle.model.specs.Limits.{DEVICES, LINKS}
use Rattle.sound_columns.proofs.Whole.{kept_none, kept_many, kept_linked, kept_all}
use Rattle.sound_columns.proofs.well_kept.Goals as goal

-- no device
pub returns-then-n-lt1 : goal.returns-then-n-lt1
returns-then-n-lt1 c = let n = c.devices-n.ensures _ in kept_none _ _ (rw n at c.if-n-lt1.true)

-- too many devices
pub returns-then-n-gt-DEVICES : goal.returns-then-n-gt-DEVICES
unfolding DEVICES
returns-then-n-gt-DEVICES c =
    let n = c.devices-n.ensures _ in
    kept_many _ _ (rw n at c.if-n-lt1.false) (rw n at c.if-n-gt-DEVICES.true)

-- too many links
pub returns-then-m-gt-LINKS : goal.returns-then-m-gt-LINKS
unfolding DEVICES LINKS
returns-then-m-gt-LINKS c =
    let n = c.devices-n.ensures _ in
    let m = c.links-m.ensures _ in
    kept_linked _ _ (rw n at c.if-n-lt1.false) (rw n at c.if-n-gt-DEVICES.false) (rw m at c.if-m-gt-LINKS.true)

-- the two parts
pub returns : goal.returns
unfolding DEVICES LINKS
returns c =
    let n = c.devices-n.ensures _ in
    let m = c.links-m.ensures _ in
    kept_all _ _ (rw n at c.if-n-lt1.false) (rw n at c.if-n-gt-DEVICES.false) (rw m at c.if-m-gt-LINKS.false) ((c.wiring_good-wiring.ensures _).is (sym n) (sym m))
    (c.devices_good-devices.ensures.is (sym n) (sym m))

pub wiring_good-wiring-requires : goal.wiring_good-wiring-requires
unfolding DEVICES LINKS
wiring_good-wiring-requires c = omega arith

pub devices_good-devices-requires : goal.devices_good-devices-requires
unfolding DEVICES LINKS
devices_good-devices-requires c = omega arith
