-- `replay_files::files::speaker` meets its contract: the name is chosen by the same test. Assumes nothing.
use mathlib.Core.Path.{refl}
use Rattle.model.specs.Logic.{when◌then◌else◌}
use Rattle.replay_text.specs.Text.{ascii}
use Rattle.replay_refusals.specs.Lines.{speaker_text}
use Rattle.replay_files.proofs.files.speaker.Goals as goal

-- `resume` speaks
pub returns-then-resumes : goal.returns-then-resumes
unfolding ascii speaker_text when◌then◌else◌
returns-then-resumes c = rw c.if-resumes.true refl

-- `replay` speaks
pub returns-else-resumes : goal.returns-else-resumes
unfolding ascii speaker_text when◌then◌else◌
returns-else-resumes c = rw c.if-resumes.false refl
