-- The name of the program that speaks is eight bytes. Assumes nothing.
use mathlib.Core.Path.{◌≡◌}
use mathlib.Core.Bool.{Bool, true, false}
use Prim.Native.Nat.{◌≤◌}
use native.Mathlib.Omega.{arith}
use lib.ListN.{length}
use Rattle.model.specs.Logic.{when◌then◌else◌}
use Rattle.replay_text.specs.declared.line.Line.{Line}
use Rattle.replay_text.specs.Text.{ascii}
use Rattle.replay_text.specs.Line.{line_of}
use Rattle.replay_text.proofs.Adding.{Holds}
use Rattle.replay_refusals.specs.Lines.{speaker_text}

speaker_length : (resumes : Bool) → length (speaker_text resumes) ≤ 8
unfolding ascii speaker_text when◌then◌else◌
speaker_length true = omega arith
speaker_length false = omega arith

pub holds_speaker : (resumes : Bool) {l : Line} → l ≡ line_of (speaker_text resumes) → Holds l (speaker_text resumes) 8
holds_speaker resumes e = record { line = e; short = speaker_length resumes }
