-- `replay_text::line::word` meets its contract. Assumes nothing.
use mathlib.Core.Path.{refl}
use Prim.Native.Nat.{◌+◌, ◌-◌, ◌≤◌, ◌<◌}
use native.Mathlib.Omega.{arith}
use lib.ListN.{length}
use lib.Seq.{take-length}
use Rattle.std.proofs.lemmas.Slice.{put_mid-paste}
use borrow.Author.Tests.{le-leb, lt-leb}
use Rattle.model.specs.Logic.{when◌then◌else◌}
use Rattle.replay_text.specs.Line.{added}
use Rattle.replay_text.proofs.line.word.Goals as goal

-- the line says that it has more text than room
pub returns-then-used-gt-ROOM : goal.returns-then-used-gt-ROOM
unfolding added when◌then◌else◌
returns-then-used-gt-ROOM c =
    let start = c.args in
    let h : 256 < start.line.used + length start.text.now = omega arith in
    rw (lt-leb _ _ h)

-- the word does not fit
pub returns-then-text-used : goal.returns-then-text-used
unfolding added when◌then◌else◌
returns-then-text-used c =
    let start = c.args in
    let h : 256 < start.line.used + length start.text.now = omega arith in
    rw (lt-leb _ _ h)

-- the word is copied
pub returns : goal.returns
unfolding added when◌then◌else◌
returns c =
    let start = c.args in
    let h : start.line.used + length start.text.now ≤ 256 = omega arith in
    let p = put_mid-paste start.line.used (start.line.used + length start.text.now - start.line.used) start.line.bytes c.copy_from_slice.new.self
    start.text.now (length start.text.now) c.copy_from_slice.ensures.after (omega arith) refl in
    rw (le-leb _ _ h, p, take-length start.text.now)
