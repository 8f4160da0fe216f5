-- `keeper::at_rest` meets its contract: the counts and the entries are stored into the memory of the empty bench. Assumes nothing.
use mathlib.Core.Path.{◌≡◌, ◌∙◌}
use lib.ListN.{length}
use native.Mathlib.Omega.{arith}
use Rattle.model.specs.Limits.{LINKS, ROWS}
use Rattle.memory.specs.Layout.{BYTES, WORDS}
use Rattle.keeper.proofs.Entries.{at_rest_lem}
use borrow.Author.Rules.{rules}
use Rattle.keeper.proofs.at_rest.Goals as goal
use Rattle.keeper.proofs.at_rest.Goals.{After-empty-fresh}

-- the arrays of a bench have their lengths
many_bytes : (c : After-empty-fresh) → length c.empty-fresh.result.bytes ≡ BYTES
unfolding BYTES ROWS LINKS
many_bytes c = let g = c.empty-fresh.type_inv in search rules

many_words : (c : After-empty-fresh) → length c.empty-fresh.result.words ≡ WORDS
unfolding WORDS ROWS
many_words c = let g = c.empty-fresh.type_inv in search rules

-- the one exit
pub returns : goal.returns
returns c =
    let x = many_bytes (goal.at.returns c).After-empty-fresh in
    let y = many_words (goal.at.returns c).After-empty-fresh in
    at_rest_lem _ _ _ _ _ _ _ _ _ c.empty-fresh.ensures (omega arith) (omega arith) c.byte_at.ensures c.set_devices.ensures
    (c.from.ensures ∙ c.byte_at-2.ensures) c.set_links.ensures c.enter_devices.ensures c.enter_links.ensures
