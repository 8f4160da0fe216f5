-- `saved_write::write` meets its contract: header, bytes and words, one after another. Assumes nothing.
use mathlib.Core.Path.{◌≡◌}
use lib.ListN.{length}
use Rattle.model.specs.Limits.{ROWS, LINKS}
use Rattle.memory.specs.Layout.{BYTES, WORDS}
use Rattle.saved_form.specs.Form.{FORM, header}
use Rattle.saved_write.proofs.Forming.{formed, no_room, written}
use borrow.Author.Rules.{rules}
use Rattle.saved_write.proofs.write.Goals as goal
use Rattle.saved_write.proofs.write.Goals.{Start}

-- both arrays have all their cells
many_bytes : (c : Start) → length c.args.bytes ≡ BYTES
unfolding BYTES ROWS LINKS
many_bytes c = let g = c.well_formed.0 in search rules

many_words : (c : Start) → length c.args.words ≡ WORDS
unfolding WORDS ROWS
many_words c = let g = c.well_formed.1.0 in search rules

-- without room
pub returns-then-out-lt-FORM : goal.returns-then-out-lt-FORM
unfolding FORM BYTES WORDS ROWS LINKS
returns-then-out-lt-FORM c = no_room c.if-out-lt-FORM.true

-- written
pub returns : goal.returns
unfolding FORM BYTES WORDS ROWS LINKS header
returns c =
    written c.if-out-lt-FORM.false
    (formed _ _ _ (many_bytes (goal.at.returns c).Start) (many_words (goal.at.returns c).Start) c.put_bytes.ensures c.put_bytes-2.ensures c.put_words.ensures)
