-- `keeper::enter_devices` meets its contract. The invariant: the entries of the devices passed are stored. Assumes nothing.
use mathlib.Core.Path.{◌≡◌, refl}
use native.Mathlib.Omega.{arith}
use Rattle.keeper.proofs.Entries.{no_devices, one_device}
use Rattle.keeper.proofs.enter_devices.Goals as goal

pub loop-p-init : goal.loop-p-init
loop-p-init c = no_devices _ _

pub loop-p-preserved : goal.loop-p-preserved
loop-p-preserved c =
    one_device _ _ _ _ _ _ _ _ _ _ c.loop-p.invariant c.device_byte.ensures c.set_parent.ensures c.device_byte-in-loop-p.ensures
    c.set_ignore.ensures refl c.set_depth.ensures

pub returns : goal.returns
returns c =
    let e : c.loop-p.p ≡ c.byte_at-n.result = omega arith in
    (rw (e, c.byte_at-n.ensures) at c.loop-p.invariant).are
