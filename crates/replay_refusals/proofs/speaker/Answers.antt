-- `replay_refusals::speaker` meets its contract: the name is chosen by the same test. Assumes nothing.
use native.Mathlib.Omega.{arith}
use Rattle.model.specs.Logic.{when◌then◌else◌}
use Rattle.replay_text.specs.Text.{ascii}
use Rattle.replay_refusals.specs.Lines.{speaker_text}
use Rattle.replay_text.proofs.Adding.{holds_start, holds_word}
use Rattle.replay_refusals.proofs.speaker.Goals as goal

-- `resume` speaks
pub returns-then-resumes : goal.returns-then-resumes
unfolding ascii speaker_text when◌then◌else◌
returns-then-resumes c =
    let h = holds_start c.start.ensures in
    rw c.if-resumes.true (holds_word (ascii "resume: ") h c.word.ensures (omega arith)).line

-- `replay` speaks
pub returns : goal.returns
unfolding ascii speaker_text when◌then◌else◌
returns c =
    let h = holds_start c.start-2.ensures in
    rw c.if-resumes.false (holds_word (ascii "replay: ") h c.word-2.ensures (omega arith)).line
