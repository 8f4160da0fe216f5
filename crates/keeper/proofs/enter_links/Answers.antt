-- `keeper::enter_links` meets its contract. The invariant: the entries of the links passed are stored. Assumes nothing.
use mathlib.Core.Path.{◌≡◌}
use native.Mathlib.Omega.{arith}
use Rattle.keeper.proofs.Entries.{no_links, one_link}
use Rattle.keeper.proofs.enter_links.Goals as goal

pub loop-i-init : goal.loop-i-init
loop-i-init c = no_links _ _

pub loop-i-preserved : goal.loop-i-preserved
loop-i-preserved c =
    one_link _ _ _ _ _ _ _ _ _ _ c.loop-i.invariant c.link_byte.ensures (rw c.from-row.ensures at c.set_consumer.ensures) c.link_byte-in-loop-i.ensures
    (rw c.from-row.ensures at c.set_supplier.ensures) c.link_byte-in-loop-i-2.ensures (rw c.from-row.ensures at c.set_flags.ensures)

pub returns : goal.returns
returns c =
    let e : c.loop-i.i ≡ c.from-m.result = omega arith in
    (rw (e, c.from-m.ensures, c.byte_at.ensures) at c.loop-i.invariant).are
