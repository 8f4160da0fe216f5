-- `sound_columns::wiring_good` meets its contract: each part tests its part of the wiring. Assumes nothing.
use mathlib.Core.Path.{sym, ◌∙◌, ap}
use native.Mathlib.Omega.{arith}
use Prim.Native.Nat.{ℕ, ◌-◌}
use Rattle.model.specs.Limits.{ROWS, LINKS}
use Rattle.memory.specs.Layout.{state_in}
use Rattle.memory.proofs.Columns.{parent_page, ignore_page, consumer_page, supplier_page, flags_page}
use Rattle.sound_columns.proofs.Whole.{column_of, all_of, fit_of, wiring_parts}
use Rattle.sound_columns.proofs.wiring_good.Goals as goal

pub returns : goal.returns
unfolding ROWS LINKS
returns c =
    -- the places, from the last call back to the first
    λ words.
    record {
      is =
          λ en em.
          let s = state_in c.args.bytes.now words in
          let n = c.from-rows.ensures ∙ sym en in
          let m = sym em in
          wiring_parts s
          (column_of ROWS 255 (parent_page _ words) n c.byte_column-parent.ensures)
          (column_of ROWS 1 (ignore_page _ words) n c.byte_column-ignore.ensures)
          (column_of LINKS 255 (consumer_page _ words) m c.link_column-consumer.ensures)
          (column_of LINKS 255 (supplier_page _ words) m c.link_column-supplier.ensures)
          (column_of LINKS 3 (flags_page _ words) m c.link_column-flags.ensures)
          (all_of _ (sym en) (c.parents_good.ensures.is words))
          (fit_of s (sym en) m (c.links_fit-fit.ensures.is words))
          (all_of _ (ap (λ (x : ℕ). x - 1) m) (c.links_ascend-ascend.ensures.is words));
    }

pub links_ascend-ascend-requires : goal.links_ascend-ascend-requires
unfolding LINKS
links_ascend-ascend-requires c = omega arith
