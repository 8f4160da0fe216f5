-- `sound_rules::parents_good` meets its contract. Assumes nothing.
use borrow.Author.Rules.{rules}
use Rattle.sound_rules.specs.Parts.{parent_fits}
use Rattle.sound_rules.proofs.parents_good.Goals as goal

pub returns : goal.returns
unfolding parent_fits
returns c = record { is = λ words. rw (← c.from.ensures) (c.every.ensures _ (λ k r l e. search rules)) }
