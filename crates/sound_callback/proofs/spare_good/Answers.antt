-- Both exits answer `leb used i implies byte i is 0`, by what the readers say of used and the byte. Assumes nothing.
use Rattle.model.specs.Logic.{◌implies◌}
use mathlib.Core.Path.{◌∙◌}
use borrow.Author.Tests.{lt-leb, le-leb}
use Rattle.sound_callback.specs.Parts.{spare_test}
use Rattle.sound_callback.proofs.spare_good.Goals as goal

-- byte i is used
pub returns-then-i-from : goal.returns-then-i-from
unfolding spare_test ◌implies◌
returns-then-i-from c = record { is = λ words. let e = c.from.ensures ∙ c.used.ensures words in rw (lt-leb _ _ (rw e at c.if-i-from.true)) }

-- byte i is not used
pub returns : goal.returns
unfolding spare_test ◌implies◌
returns c =
    record {
      is =
          λ words.
          let e = c.from.ensures ∙ c.used.ensures words in
          rw (le-leb _ _ (rw e at c.if-i-from.false), ← c.carried.ensures words);
    }
