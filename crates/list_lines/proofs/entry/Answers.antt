-- `list_lines::entry` meets its contract: each exit is a case of the first word. Assumes nothing.
use Rattle.replay_text.specs.Text.{ascii}
use Rattle.list_lines.proofs.Judging.{entry_none, entry_part, entry_link, entry_wrong}
use Rattle.list_lines.proofs.entry.Goals as goal

-- no word
pub returns-then-is_empty : goal.returns-then-is_empty
returns-then-is_empty c = entry_none _ c.word-first.ensures c.is_empty.ensures c.if-is_empty.true

-- a part
pub returns-then-eq : goal.returns-then-eq
unfolding ascii
returns-then-eq c = entry_part _ c.word-first.ensures c.is_empty.ensures c.if-is_empty.false c.as_slice.ensures c.eq.ensures c.if-eq.true c.part.ensures

-- a link
pub returns-then-eq-2 : goal.returns-then-eq-2
unfolding ascii
returns-then-eq-2 c =
    entry_link _ c.word-first.ensures c.is_empty.ensures c.if-is_empty.false c.as_slice.ensures c.eq.ensures c.if-eq.false
    c.as_slice-2.ensures c.eq-2.ensures c.if-eq-2.true c.link.ensures

-- another word
pub returns : goal.returns
unfolding ascii
returns c =
    entry_wrong _ c.word-first.ensures c.is_empty.ensures c.if-is_empty.false c.as_slice.ensures c.eq.ensures c.if-eq.false
    c.as_slice-2.ensures c.eq-2.ensures c.if-eq-2.false
