-- `keeper::enter_links` meets its contract. The invariant: the entries of the links passed are stored. Assumes nothing.
use Rattle.keeper.proofs.Entries.{Links}
use Rattle.keeper.proofs.enter_links.Given as goal

abbrev pub invariant-loop-i : goal.invariant-loop-i
invariant-loop-i l = Links l.t l.i l.initial.bytes l.bytes
