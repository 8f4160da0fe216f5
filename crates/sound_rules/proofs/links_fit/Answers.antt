-- `sound_rules::links_fit` meets its contract. Assumes nothing.
use native.Mathlib.Omega.{arith}
use Rattle.std.proofs.lemmas.Grind.{common_steps}
use Rattle.model.specs.Table.{ends_good}
use Rattle.sound_rules.specs.Parts.{ends_fit}
use Rattle.sound_rules.proofs.links_fit.Goals as goal

pub returns : goal.returns
unfolding ends_fit ends_good
returns c = record { is = λ words. c.every.ensures _ (λ k r l e. grind (arith, common_steps)) }
