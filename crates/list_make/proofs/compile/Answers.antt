-- `list_make::compile` meets its contract: lists that are too long for the buffers are too long for a table; others are gathered whole, and
-- the writer's answer is told. Assumes nothing.
use mathlib.Core.Path.{◌≡◌, sym, ◌∙◌, ap}
use native.Mathlib.Omega.{arith}
use lib.ListN.{length, take}
use Rattle.model.specs.Limits.{DEVICES, LINKS}
use Rattle.list_make.specs.Making.{listed_devices, listed_links}
use Rattle.list_make.proofs.Limits.{long_devices, long_links, all_there, makes, given_same}
use Rattle.list_make.proofs.compile.Goals as goal
use Rattle.list_make.proofs.compile.Goals.{Else-m-gt-LINK_BYTES}

-- too many devices
pub returns-then-n-gt-DEVICE_BYTES : goal.returns-then-n-gt-DEVICE_BYTES
unfolding DEVICES
returns-then-n-gt-DEVICE_BYTES c =
    let a = c.args in
    let n = c.gather-n.ensures.bytes in
    let many = c.if-n-gt-DEVICE_BYTES.true in
    makes a.text.now a.table.now 0 (long_devices (listed_devices a.text.now) (listed_links a.text.now) a.table.now (omega arith)) c.told.ensures (λ z. absurd (omega arith))

-- too many links
pub returns-then-m-gt-LINK_BYTES : goal.returns-then-m-gt-LINK_BYTES
unfolding LINKS
returns-then-m-gt-LINK_BYTES c =
    let a = c.args in
    let m = c.gather-m.ensures.bytes in
    let many = c.if-m-gt-LINK_BYTES.true in
    makes a.text.now a.table.now 0 (long_links (listed_devices a.text.now) (listed_links a.text.now) a.table.now (omega arith)) c.told-then-m-gt-LINK_BYTES.ensures (λ z. absurd (omega arith))

-- where there are not, what was gathered is whole
devices : (c : Else-m-gt-LINK_BYTES) → take c.gather-n.result c.gather-n.new.out ≡ listed_devices c.args.text.now
devices c =
    let g = c.gather-n in
    all_there _ _ g.ensures.bytes g.ensures.buffer (let l = c.if-n-gt-DEVICE_BYTES.false in omega arith)

links : (c : Else-m-gt-LINK_BYTES) → take c.gather-m.result c.gather-m.new.out ≡ listed_links c.args.text.now
links c =
    let g = c.gather-m in
    all_there _ _ g.ensures.bytes g.ensures.buffer (let l = c.if-m-gt-LINK_BYTES.false in omega arith)

pub slice_bounds-write-end : goal.slice_bounds-write-end
slice_bounds-write-end c = c.gather-n.ensures.bytes ∙ ap length (sym (devices (goal.at.slice_bounds-write-end c).Else-m-gt-LINK_BYTES))

pub slice_bounds-write-end-2 : goal.slice_bounds-write-end-2
slice_bounds-write-end-2 c =
    c.gather-m.ensures.bytes ∙ ap length (sym (links (goal.at.slice_bounds-write-end-2 c).Else-m-gt-LINK_BYTES))

-- the writer's answer
pub returns : goal.returns
returns c =
    let a = c.args in
    let n = c.gather-n.ensures.bytes in
    let m = c.gather-m.ensures.bytes in
    makes a.text.now a.table.now _ (given_same a.table.now c.write-outcome.ensures (devices (goal.at.returns c).Else-m-gt-LINK_BYTES)
    (links (goal.at.returns c).Else-m-gt-LINK_BYTES)) c.told-2.ensures (λ z. omega arith)
