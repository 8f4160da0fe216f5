-- `list_print::part_line` meets its contract. Assumes nothing.
use native.Mathlib.Omega.{arith}
use Rattle.replay_text.specs.Text.{ascii}
use Rattle.list_print.specs.Lines.{parent_text, part_words, part_text}
use Rattle.replay_text.proofs.Adding.{holds_start, holds_word, holds_within, holds_field}
use Rattle.list_print.proofs.Parents.{parent_short}
use Rattle.list_print.proofs.part_line.Goals as goal

pub returns : goal.returns
unfolding ascii part_words part_text
returns c =
    let args = c.args in
    let h1 = holds_word (ascii "part ") (holds_start c.start.ensures) c.word.ensures (omega arith) in
    let h2 = holds_within (parent_text args.parent) 20 (parent_short args.parent) h1 c.parent_word-placed.ensures (omega arith) in
    let h3 = holds_field (ascii " ") args.flags h2 c.from.ensures c.field.ensures (omega arith) in
    (holds_word (ascii "\n") h3 c.word-2.ensures (omega arith)).line
