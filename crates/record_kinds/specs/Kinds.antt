-- A record and the constant tables of kinds as the code has them. Assumes nothing.
use Rattle.std.specs.Prelude.{Bool, true, false, List, ◌∷◌, [], ℕ, pos, negsuc, Result, ⊤, Ok, Err}
use Rattle.model.specs.Records.{Rec}
use Rattle.record_kinds.specs.declared.Record.{Record}
use Rattle.record_kinds.specs.declared.Bounds as declared
use Rattle.record_kinds.specs.declared.Refusal.{Refusal}
use Rattle.record_kinds.specs.declared.Refusal.TheVariants as refusal

abbrev pub rec_of : Record → Rec
rec_of r = record { kind = r.kind; device = r.device; value = r.value }

-- ---- refusals 11 to 13, or 0 where there is none of them
abbrev pub refusal_of : Refusal → ℕ
refusal_of refusal.Kind = 11
refusal_of refusal.Device = 12
refusal_of refusal.Value = 13

abbrev pub fault_of : Result ⊤ Refusal → ℕ
fault_of (Ok u) = 0
fault_of (Err r) = refusal_of r

-- ---- the constant tables, a column of the model's table each
abbrev pub no_bounds : declared.Bounds
no_bounds = record { 0 = pos 0; 1 = pos 0 }

abbrev pub bounds_table : List declared.Bounds
bounds_table =
    no_bounds ∷ no_bounds ∷ no_bounds ∷ no_bounds ∷ no_bounds ∷ no_bounds ∷ no_bounds ∷ no_bounds ∷ no_bounds ∷ no_bounds ∷ no_bounds ∷ no_bounds
    ∷ record { 0 = pos 0; 1 = pos 1 } ∷ record { 0 = negsuc 4094; 1 = pos 0 } ∷ []

abbrev pub whole_table : List Bool
whole_table = false ∷ false ∷ false ∷ false ∷ false ∷ false ∷ false ∷ false ∷ false ∷ false ∷ false ∷ false ∷ false ∷ false ∷ []

abbrev pub always_table : List Bool
always_table = false ∷ false ∷ false ∷ false ∷ false ∷ false ∷ false ∷ false ∷ false ∷ false ∷ false ∷ false ∷ false ∷ true ∷ []
