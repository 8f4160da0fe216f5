-- `keeper::feed` meets its contract: the arrays of a bench have their lengths by its type, and a piece fed to its memory gives what the
-- model's does. Assumes nothing.
use mathlib.Core.Path.{◌≡◌, sym}
use lib.ListN.{length}
use Rattle.model.specs.Limits.{LINKS, ROWS}
use Rattle.memory.specs.Layout.{BYTES, WORDS}
use borrow.Author.Rules.{rules}
use Rattle.keeper.proofs.feed.Goals as goal
use Rattle.keeper.proofs.feed.Goals.{Start}

many_bytes : (c : Start) → length c.args.bench.bytes ≡ BYTES
unfolding BYTES ROWS LINKS
many_bytes c = let g = c.well_formed.0 in search rules

many_words : (c : Start) → length c.args.bench.words ≡ WORDS
unfolding WORDS ROWS
many_words c = let g = c.well_formed.0 in search rules

-- the one exit
pub returns : goal.returns
returns c =
    sym (c.feed-answer.ensures.is (many_bytes (goal.at.returns c).Start) (many_words (goal.at.returns c).Start))
