-- `sound_rows::link_column` meets its contract: the rows in use and the others make the column. Assumes nothing.
use native.Mathlib.Omega.{arith}
use borrow.Author.Rules.{rules}
use Rattle.model.specs.Limits.{LINKS}
use Rattle.memory.proofs.Pages.{link_row}
use Rattle.sound_rows.proofs.Reading.{column_parts}
use Rattle.sound_rows.proofs.link_column.Goals as goal

pub returns : goal.returns
unfolding LINKS
returns c =
    let cut = c.split_at.ensures in
    column_parts LINKS _ _ _ _ c.link_page-page.ensures (link_row _ LINKS _ (omega arith)) c.min.ensures cut.front_len cut.back_len cut.by_index.1 cut.by_index.2
    (c.every.ensures _ (λ k r l e. search rules)) (c.every-2.ensures _ (λ k r l e. search rules))
