-- An empty line says nothing: what the loops over lines need of the definition. Assumes nothing.
use mathlib.Core.Path.{◌≡◌, refl}
use mathlib.Core.List.{[]}
use Rattle.std.specs.Prelude.{Ok}
use Rattle.model.specs.Logic.{when◌then◌else◌}
use Rattle.list_words.specs.Words.{word_at, word_in}
use Rattle.list_lines.specs.Lines.{entry_in}
use Rattle.list_lines.specs.declared.entries.Entry.TheVariants.{Nothing}

pub empty_nothing : entry_in [] ≡ Ok Nothing
unfolding entry_in word_in word_at when◌then◌else◌
empty_nothing = refl
