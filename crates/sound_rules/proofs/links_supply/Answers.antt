-- `sound_rules::links_supply` meets its contract. Assumes nothing.
use borrow.Author.Rules.{rules}
use Rattle.sound_rules.proofs.links_supply.Goals as goal

pub returns : goal.returns
returns c = record { is = λ words. c.every.ensures _ (λ k r l e. search rules) }
