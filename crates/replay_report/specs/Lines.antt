-- The lines that are printed. Assumes nothing.
use Rattle.std.specs.Prelude.{List, ◌++◌, ℕ, eqb}
use Rattle.model.specs.Logic.{when◌then◌else◌}
use Rattle.model.specs.Table.{TableAnswer}
use Rattle.replay_text.specs.Text.{ascii, decimal}

-- table refused NUMBER INDEX
unfoldable pub refused_text : TableAnswer → List ℕ
refused_text a = ascii "table refused " ++ decimal a.number ++ ascii " " ++ decimal a.index ++ ascii "\n"

-- replies N
unfoldable pub replies_text : ℕ → List ℕ
replies_text n = ascii "replies " ++ decimal n ++ ascii "\n"

-- carried B
unfoldable pub carried_text : ℕ → List ℕ
carried_text b = ascii "carried " ++ decimal b ++ ascii "\n"

-- callback none, callback suspend P, callback resume P for T, callback idle P; of a sound bench no other
unfoldable pub callback_text : ℕ → ℕ → ℕ → List ℕ
callback_text kind asked target =
    when eqb kind 0 then ascii "callback none\n"
    else when eqb kind 1 then ascii "callback suspend " ++ decimal asked ++ ascii "\n"
    else when eqb kind 2 then ascii "callback resume " ++ decimal asked ++ ascii " for " ++ decimal target ++ ascii "\n"
    else when eqb kind 3 then ascii "callback idle " ++ decimal asked ++ ascii "\n"
    else ascii "callback unknown\n"
