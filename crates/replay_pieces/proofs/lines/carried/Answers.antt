-- The number of carried bytes is the state's. Assumes nothing.
use Rattle.replay_pieces.proofs.lines.carried.Goals as goal

pub returns : goal.returns
returns c =
    rw (← c.used-used.ensures c.args.bench.words) c.carried.ensures
