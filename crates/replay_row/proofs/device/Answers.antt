-- `replay_row::device` meets its contract. Assumes nothing.
use Prim.Native.Nat.{◌+◌}
use native.Mathlib.Omega.{arith}
use Rattle.replay_text.specs.Text.{ascii}
use Rattle.replay_row.specs.Rows.{device_text, status_text, sign_text}
use Rattle.replay_text.proofs.Adding.{holds_start, holds_word, holds_within, holds_number, holds_field}
use Rattle.replay_row.proofs.Picked.{status_short, sign_short}
use Rattle.replay_row.proofs.device.Goals as goal

pub returns : goal.returns
unfolding ascii device_text
returns c =
    let args = c.args in
    let h1 = holds_field (ascii "device ") args.p (holds_start c.start.ensures) c.from.ensures c.field-named.ensures (omega arith) in
    let h2 = holds_word (ascii " status ") h1 c.word.ensures (omega arith) in
    let h3 = holds_within (status_text args.row.status) 10 (status_short args.row.status) h2 c.status_word-placed.ensures (omega arith) in
    let h4 = holds_field (ascii " usage ") (args.row.holds + args.row.linked) h3 c.usage.ensures c.field-used.ensures (omega arith) in
    let h5 = holds_field (ascii " children ") args.row.children h4 c.from-2.ensures c.field-counted.ensures (omega arith) in
    let h6 = holds_field (ascii " holds ") args.row.holds h5 c.from-3.ensures c.field-held.ensures (omega arith) in
    let h7 = holds_field (ascii " depth ") args.row.depth h6 c.from-4.ensures c.field-disabled.ensures (omega arith) in
    let h8 = holds_word (ascii " error ") h7 c.word-2.ensures (omega arith) in
    let h9 = holds_within (sign_text args.row.error) 1 (sign_short args.row.error) h8 c.sign-signed.ensures (omega arith) in
    let h10 = holds_number args.row.error h9 c.from-5.ensures c.number.ensures (omega arith) in
    (holds_word (ascii "\n") h10 c.word-3.ensures (omega arith)).line
