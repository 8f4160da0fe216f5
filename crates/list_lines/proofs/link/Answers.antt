-- `list_lines::link` meets its contract. Assumes nothing.
use Rattle.std.proofs.Common.{sym, ◌∙◌, ap}
use Rattle.std.proofs.lemmas.Result.{err_from_is_err_and}
use Rattle.list_lines.specs.Lines.{link_of}
use Rattle.list_lines.proofs.Judging.{link_long, link_is}
use Rattle.list_lines.proofs.link.Goals as goal

-- a word too many
pub returns-then-not-is_empty : goal.returns-then-not-is_empty
returns-then-not-is_empty c = link_long _ c.word.ensures c.is_empty.ensures c.if-not-is_empty.true

-- a word that is no number, or a number over 255
pub returns-in_err-consumer : goal.returns-in_err-consumer
returns-in_err-consumer c =
    let p = err_from_is_err_and c.from_residual.result c.from_residual.ensures.1 in
    let is = link_is _ c.word.ensures c.is_empty.ensures c.if-not-is_empty.false c.word-2.ensures c.number-consumer.ensures
    c.word-3.ensures c.number.ensures c.word-4.ensures c.number-2.ensures c.both-rest.ensures c.both.ensures in
    rw (p.1, p.2) (sym (ap link_of c.in_err-consumer.was) ∙ is)

-- three words after the first
pub returns : goal.returns
returns c =
    sym (ap link_of c.in_ok-consumer.was)
    ∙ link_is _ c.word.ensures c.is_empty.ensures c.if-not-is_empty.false c.word-2.ensures c.number-consumer.ensures
    c.word-3.ensures c.number.ensures c.word-4.ensures c.number-2.ensures c.both-rest.ensures c.both.ensures
