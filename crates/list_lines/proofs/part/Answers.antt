-- `list_lines::part` meets its contract. Assumes nothing.
use Rattle.std.proofs.Common.{sym, ◌∙◌, ap}
use Rattle.std.proofs.lemmas.Result.{err_from_is_err_and}
use Rattle.list_lines.specs.Lines.{part_of}
use Rattle.list_lines.proofs.Judging.{part_long, part_is}
use Rattle.list_lines.proofs.part.Goals as goal

-- a word too many
pub returns-then-not-is_empty : goal.returns-then-not-is_empty
returns-then-not-is_empty c = part_long _ c.word.ensures c.is_empty.ensures c.if-not-is_empty.true

-- a word that is no number, or a number over 255
pub returns-in_err-parent : goal.returns-in_err-parent
returns-in_err-parent c =
    let p = err_from_is_err_and c.from_residual.result c.from_residual.ensures.1 in
    let is = part_is _ c.word.ensures c.is_empty.ensures c.if-not-is_empty.false c.word-2.ensures c.parent.ensures c.word-3.ensures c.number.ensures c.both.ensures in
    rw (p.1, p.2) (sym (ap part_of c.in_err-parent.was) ∙ is)

-- two words after the first
pub returns : goal.returns
returns c =
    sym (ap part_of c.in_ok-parent.was)
    ∙ part_is _ c.word.ensures c.is_empty.ensures c.if-not-is_empty.false c.word-2.ensures c.parent.ensures c.word-3.ensures c.number.ensures c.both.ensures
