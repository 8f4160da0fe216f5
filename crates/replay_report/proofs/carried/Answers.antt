-- `replay_report::carried` meets its contract. Assumes nothing.
use native.Mathlib.Omega.{arith}
use Rattle.replay_text.specs.Text.{ascii}
use Rattle.replay_report.specs.Lines.{carried_text}
use Rattle.replay_text.proofs.Adding.{holds_start, holds_word, holds_field}
use Rattle.replay_report.proofs.carried.Goals as goal

pub returns : goal.returns
unfolding ascii carried_text
returns c =
    let h = holds_start c.start.ensures in
    let g = holds_field (ascii "carried ") c.args.used h c.from.ensures c.field.ensures (omega arith) in
    (holds_word (ascii "\n") g c.word.ensures (omega arith)).line
