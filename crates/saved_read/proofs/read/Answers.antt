-- `saved_read::read` meets its contract: the tests in their order, each with its number; a form that passes them is read by its spans.
-- Assumes nothing.
use mathlib.Core.Path.{refl, sym, ◌∙◌}
use Rattle.model.specs.Limits.{ROWS, LINKS}
use Rattle.model.proofs.Chains.{passed, failed}
use Rattle.memory.specs.Layout.{BYTES, WORDS}
use Rattle.saved_answer.specs.declared.RestoreRefusal.TheVariants.{Short, Mark, Version, Length}
use Rattle.saved_form.specs.Form.{FORM}
use Rattle.saved_read.proofs.Heads.{head_short, head_mark, head_version, head_length, read_refused, read_taken}
use Rattle.saved_read.proofs.read.Goals as goal

-- fewer than five bytes
pub returns-then-f-lt-HEADER : goal.returns-then-f-lt-HEADER
returns-then-f-lt-HEADER c = read_refused Short (head_short _ c.if-f-lt-HEADER.true) refl

-- another mark
pub returns-then-not-is_marked : goal.returns-then-not-is_marked
returns-then-not-is_marked c =
    read_refused Mark (head_mark _ c.if-f-lt-HEADER.false (failed c.is_marked.ensures c.if-not-is_marked.true-raw)) refl

-- another version
pub returns-then-version_in-ne1 : goal.returns-then-version_in-ne1
returns-then-version_in-ne1 c =
    let marked = passed c.is_marked.ensures c.if-not-is_marked.false-raw in
    read_refused Version (head_version _ c.if-f-lt-HEADER.false marked (λ z. c.if-version_in-ne1.true (c.version_in.ensures ∙ z))) refl

-- another length
pub returns-then-f-ne-FORM : goal.returns-then-f-ne-FORM
unfolding FORM BYTES WORDS ROWS LINKS
returns-then-f-ne-FORM c =
    let marked = passed c.is_marked.ensures c.if-not-is_marked.false-raw in
    let one = sym c.version_in.ensures ∙ c.if-version_in-ne1.false in
    read_refused Length (head_length _ c.if-f-lt-HEADER.false marked one c.if-f-ne-FORM.true) refl

pub cells_of-requires : goal.cells_of-requires
unfolding FORM BYTES WORDS ROWS LINKS
cells_of-requires c = c.if-f-ne-FORM.false

-- read
pub returns : goal.returns
unfolding FORM BYTES WORDS ROWS LINKS
returns c =
    let marked = passed c.is_marked.ensures c.if-not-is_marked.false-raw in
    let one = sym c.version_in.ensures ∙ c.if-version_in-ne1.false in
    read_taken c.if-f-lt-HEADER.false (record { mark = marked; version = one; long = c.if-f-ne-FORM.false }) c.cells_of.ensures
