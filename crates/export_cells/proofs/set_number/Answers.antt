-- `export_cells::set_number` meets its contract: each arm sets the number that the list has there. Assumes nothing.
use mathlib.Core.Path.{◌≡◌, ◌∙◌}
use native.Mathlib.Omega.{arith}
use Rattle.export_cells.specs.Cells.{numbers_set, with_number}
use Rattle.export_cells.proofs.Fields.{carried_set}
use Rattle.export_cells.proofs.set_number.Goals as goal

-- a carried byte
pub returns-then-i-ge6 : goal.returns-then-i-ge6
returns-then-i-ge6 c =
    let words = c.args.words.now in
    record { is = λ l m. rw c.low-v.ensures at (c.set_carried_byte.ensures words l) ∙ carried_set _ _ _ (omega arith) }

-- n
pub returns-in-0 : goal.returns-in-0
unfolding with_number numbers_set
returns-in-0 c =
    let words = c.args.words.now in
    record { is = λ l m. rw c.in-0.is (rw c.low-v.ensures at (c.set_devices.ensures words l)) }

-- m
pub returns-in-1 : goal.returns-in-1
unfolding with_number numbers_set
returns-in-1 c = record { is = λ l m. rw c.in-1.is (c.set_links.ensures _ m) }

-- the open callback's kind
pub returns-in-2 : goal.returns-in-2
unfolding with_number numbers_set
returns-in-2 c =
    let words = c.args.words.now in
    record {
      is =
          λ l m.
          rw c.in-2.is
          (rw (c.low-v.ensures, c.asked-asked.ensures words, c.target-target.ensures words) at (c.set_callback.ensures words l));
    }

-- the device asked
pub returns-in-3 : goal.returns-in-3
unfolding with_number numbers_set
returns-in-3 c =
    let words = c.args.words.now in
    record {
      is =
          λ l m.
          rw c.in-3.is
          (rw (c.low-v.ensures, c.callback-kind.ensures words, c.target-target.ensures words) at (c.set_callback-in-3.ensures words l));
    }

-- the target
pub returns-in-4 : goal.returns-in-4
unfolding with_number numbers_set
returns-in-4 c =
    let words = c.args.words.now in
    record {
      is =
          λ l m.
          rw c.in-4.is
          (rw (c.low-v.ensures, c.callback-kind.ensures words, c.asked-asked.ensures words) at (c.set_callback-in-4.ensures words l));
    }

-- how many bytes are carried
pub returns-in_default : goal.returns-in_default
unfolding with_number numbers_set
returns-in_default c =
    let words = c.args.words.now in
    let last : c.args.i ≡ 5 = omega arith in
    record { is = λ l m. rw last (rw c.low-v.ensures at (c.set_used.ensures words l)) }
