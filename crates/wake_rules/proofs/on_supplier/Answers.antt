-- The three tests, joined, are those of the definition. Assumes nothing.
use Rattle.wake_rules.specs.Rests.{on_supplier, sleeping_supplier}
use Rattle.wake_rules.proofs.on_supplier.Goals as goal

pub returns : goal.returns
unfolding on_supplier sleeping_supplier
returns c =
    λ words.
    rw (← c.supplier-q.ensures words, ← c.flags.ensures words, ← c.status.ensures words)
