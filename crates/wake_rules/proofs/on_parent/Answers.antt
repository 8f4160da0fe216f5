-- The three tests, joined, are those of the definition. Assumes nothing.
use mathlib.Core.Path.{◌≡◌}
use Rattle.model.specs.State.{status_at}
use Rattle.memory.specs.Layout.{state_in}
use Rattle.wake_rules.specs.Rests.{on_parent, sleeping_parent}
use Rattle.wake_rules.proofs.on_parent.Goals as goal

pub returns : goal.returns
unfolding on_parent sleeping_parent
returns c =
    λ words.
    let s = state_in c.args.bytes.now words in
    let asleep : c.status.result ≡ status_at s c.parent-q.result = c.status.ensures words in
    rw (← c.parent-q.ensures words, ← c.ignore.ensures words, ← asleep)
