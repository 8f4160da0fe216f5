-- `sound_columns::devices_good` meets its contract: each part tests its part of the devices' state. Assumes nothing.
use mathlib.Core.Path.{sym, ◌∙◌}
use native.Mathlib.Omega.{arith}
use Rattle.model.specs.Limits.{ROWS, LINKS}
use Rattle.memory.proofs.Columns.{status_page, holds_page, depth_page, error_page, children_page, linked_page}
use Rattle.sound_columns.proofs.Whole.{column_of, same_of, all_of, devices_parts}
use Rattle.sound_columns.proofs.devices_good.Goals as goal

pub returns : goal.returns
unfolding ROWS LINKS
returns c =
    -- the places, from the last call back to the first
    record {
      is =
          λ en em.
          let n = c.from-rows.ensures ∙ sym en in
          devices_parts _ _
          (column_of ROWS 3 (status_page _ _) n c.byte_column-status.ensures)
          (column_of ROWS 32767 (holds_page _ _) n c.word_column-holds.ensures)
          (column_of ROWS 255 (depth_page _ _) n c.byte_column-depth.ensures)
          (column_of ROWS 4095 (error_page _ _) n c.word_column-error.ensures)
          (same_of (children_page _ _) (c.recount_children-below.ensures.is _ en) c.same_bytes-children.ensures)
          (same_of (linked_page _ _) (c.recount_linked-links.ensures.is _ em) c.same_words-linked.ensures)
          (all_of _ (sym en) (c.parents_supply.ensures.is _))
          (all_of _ (sym em) (c.links_supply.ensures.is _));
    }

pub recount_linked-links-requires : goal.recount_linked-links-requires
unfolding LINKS
recount_linked-links-requires c = omega arith
