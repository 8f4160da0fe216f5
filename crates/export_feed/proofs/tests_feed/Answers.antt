-- `export_feed::tests_feed` meets its contract, by those of `feed` and `code`. Assumes nothing.
use mathlib.Core.Path.{ap, ◌∙◌}
use Rattle.model.specs.Feed.{Fed}
use Rattle.export_feed.specs.Fed.{fed_code}
use Rattle.export_feed.proofs.tests_feed.Goals as goal

-- the one exit
pub returns : goal.returns
returns c =
    let fed = c.feed-fed.ensures in
    record {
      code = c.code.ensures ∙ ap (λ (f : Fed). fed_code f.number f.replies) fed;
      left = ap (λ (f : Fed). f.buffer) fed;
      state = ap (λ (f : Fed). f.state) fed;
    }
