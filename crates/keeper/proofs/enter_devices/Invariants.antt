-- `keeper::enter_devices` meets its contract. The invariant: the entries of the devices passed are stored. Assumes nothing.
use Rattle.keeper.proofs.Entries.{Devices}
use Rattle.keeper.proofs.enter_devices.Given as goal

abbrev pub invariant-loop-p : goal.invariant-loop-p
invariant-loop-p l = Devices l.t l.p l.initial.bytes l.bytes
