-- `list_print::link_line` meets its contract. Assumes nothing.
use native.Mathlib.Omega.{arith}
use Rattle.replay_text.specs.Text.{ascii}
use Rattle.list_print.specs.Lines.{link_words, link_text}
use Rattle.replay_text.proofs.Adding.{holds_start, holds_word, holds_field}
use Rattle.list_print.proofs.link_line.Goals as goal

pub returns : goal.returns
unfolding ascii link_words link_text
returns c =
    let args = c.args in
    let h0 = holds_start c.start.ensures in
    let h1 = holds_field (ascii "link ") args.consumer h0 c.from.ensures c.field-from.ensures (omega arith) in
    let h2 = holds_field (ascii " ") args.supplier h1 c.from-2.ensures c.field-to.ensures (omega arith) in
    let h3 = holds_field (ascii " ") args.flags h2 c.from-3.ensures c.field.ensures (omega arith) in
    (holds_word (ascii "\n") h3 c.word.ensures (omega arith)).line
