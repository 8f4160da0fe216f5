-- How the program `list` ends, by its table. Assumes nothing.
use Rattle.std.specs.Prelude.{◌≡◌, ◌⊎◌, ℕ}
use Rattle.program_end.specs.declared.End.{End}
use Rattle.program_end.specs.declared.End.TheVariants.{Done, Refused, Failed}

-- a refused table is told, and one that is taken listed, where standard output can be written
pub record Listed (number : ℕ) (end : End) : Type 0 where
  pub refused : (number ≡ 0 → ⊥) → (end ≡ Refused) ⊎ (end ≡ Failed)
  pub taken : number ≡ 0 → (end ≡ Done) ⊎ (end ≡ Failed)
