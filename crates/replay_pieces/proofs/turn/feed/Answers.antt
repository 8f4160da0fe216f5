-- `replay_pieces::turn::feed` meets its contract, by that of `keeper::feed`. Assumes nothing.
use Rattle.std.proofs.Common.{ℕ, ◌+◌, ◌*◌, ◌%◌, ◌^◌, refl, ap, ◌∙◌}
use Rattle.model.specs.Feed.{Fed}
use Rattle.replay_pieces.proofs.Within.{replies_within}
use Rattle.replay_pieces.proofs.turn.feed.Goals as goal

pub returns : goal.returns
returns c =
    let met = c.feed-fed.ensures in
    let more = c.count-more.ensures ∙ ap (λ (f : Fed). f.replies) met in
    record {
      met = met;
      bytes = ap (λ (k : ℕ). 4 * k) (c.from-2.ensures ∙ more);
      within = rw (c.from-2.ensures, more, ap (λ (f : Fed). f.buffer) met) (replies_within _ _);
      pieces = refl;
      total = ap (λ (k : ℕ). (c.args.progress.replies + k) % 2 ^ 64) (c.from.ensures ∙ more);
    }
