-- The two counts that are read, and their sum. Assumes nothing.
use Rattle.request_suspend.proofs.Changes.{used_by}
use Rattle.request_suspend.proofs.still_used.Goals as goal

pub returns : goal.returns
returns c =
    λ bytes.
    used_by c.args.kind _ _ (c.holds-held.ensures bytes) (c.linked-consumers.ensures bytes) c.usage.ensures
