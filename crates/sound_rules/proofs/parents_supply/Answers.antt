-- `sound_rules::parents_supply` meets its contract. Assumes nothing.
use borrow.Author.Rules.{rules}
use Rattle.sound_rules.proofs.parents_supply.Goals as goal

pub returns : goal.returns
returns c = record { is = λ words. rw (← c.from.ensures) (c.every.ensures _ (λ k r l e. search rules)) }
