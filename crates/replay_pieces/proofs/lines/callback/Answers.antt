-- Kind, asked device and target are those of the state. Assumes nothing.
use Rattle.replay_pieces.proofs.lines.callback.Goals as goal

pub returns : goal.returns
returns c =
    let words = c.args.bench.words in
    rw (← c.callback-kind.ensures words, ← c.asked-asked.ensures words, ← c.target-target.ensures words) c.callback.ensures
