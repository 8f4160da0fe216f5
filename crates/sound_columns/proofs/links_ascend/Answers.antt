-- `sound_columns::links_ascend` meets its contract. Assumes nothing.
use mathlib.Core.Path.{◌≡◌}
use lib.ListN.{length}
use native.Mathlib.Omega.{arith}
use borrow.Author.Rules.{rules}
use Rattle.std.proofs.iter.Serving.{serving}
use Rattle.model.specs.Limits.{LINKS, ROWS}
use Rattle.memory.specs.Layout.{CONSUMER, SUPPLIER, state_in}
use Rattle.memory.proofs.Inverse.{link_rows}
use Rattle.sound_columns.specs.Parts.{ascends_in}
use Rattle.sound_columns.proofs.links_ascend.Goals as goal

pub returns : goal.returns
unfolding LINKS ascends_in state_in
returns c = record { is = λ words. rw (← c.saturating_sub.ensures, ← c.link_page-c.ensures, ← c.link_page-s.ensures) (c.every.ensures _ (λ k r l e. search rules)) }

-- a page of the links has a row for each
pub every-requires : goal.every-requires
unfolding LINKS ROWS
every-requires c =
    let a : length c.link_page-c.result.now ≡ 128 = rw c.link_page-c.ensures (link_rows c.args.bytes.now CONSUMER (omega arith) (omega arith)) in
    let b : length c.link_page-s.result.now ≡ 128 = rw c.link_page-s.ensures (link_rows c.args.bytes.now SUPPLIER (omega arith) (omega arith)) in
    grind serving
