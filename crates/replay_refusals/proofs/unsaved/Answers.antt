-- `replay_refusals::unsaved` meets its contract. Assumes nothing.
use native.Mathlib.Omega.{arith}
use Rattle.replay_text.specs.Text.{ascii}
use Rattle.replay_refusals.specs.Lines.{unsaved_text}
use Rattle.replay_text.proofs.Adding.{holds_word, holds_field}
use Rattle.replay_refusals.proofs.Speaking.{holds_speaker}
use Rattle.replay_refusals.proofs.unsaved.Goals as goal

pub returns : goal.returns
unfolding ascii unsaved_text
returns c =
    let args = c.args in
    let h = holds_speaker args.resumes c.speaker.ensures in
    let g = holds_field (ascii "state refused ") args.number h c.from.ensures c.field.ensures (omega arith) in
    (holds_word (ascii "\n") g c.word.ensures (omega arith)).line
