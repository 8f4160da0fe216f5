-- `sound_rows::byte_column` meets its contract: the rows in use and the others make the column. Assumes nothing.
use native.Mathlib.Omega.{arith}
use borrow.Author.Rules.{rules}
use Rattle.model.specs.Limits.{ROWS}
use Rattle.memory.specs.Layout.{BYTEPAGES}
use Rattle.memory.proofs.Pages.{device_row}
use Rattle.sound_rows.proofs.Reading.{column_parts}
use Rattle.sound_rows.proofs.byte_column.Goals as goal

pub returns : goal.returns
unfolding ROWS
returns c =
    let cut = c.split_at.ensures in
    column_parts ROWS _ _ _ _ c.byte_page-page.ensures (device_row _ ROWS BYTEPAGES _ (omega arith)) c.min.ensures cut.front_len cut.back_len cut.by_index.1 cut.by_index.2
    (c.every.ensures _ (λ k r l e. search rules)) (c.every-2.ensures _ (λ k r l e. search rules))
