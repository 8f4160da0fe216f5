-- The bytes of a line, by what it says. Assumes nothing.
use Rattle.std.proofs.Common.{◌≡◌, refl, Bool, true, false, not, List, [], ◌∷◌, Result, Ok, Err, ℕ, ◌+◌, ◌≤◌, length, arith}
use Rattle.std.proofs.lemmas.List.Edits.{sets}
use Rattle.list_lines.specs.declared.entries.Entry.{Entry}
use Rattle.list_lines.specs.declared.entries.Entry.TheVariants.{Nothing, Part, Link}
use Rattle.list_lines.specs.declared.entries.Fault.{Fault}
use Rattle.list_text.specs.Texts.{part_bytes, link_bytes, bytes_of, is_of}
use Rattle.list_text.specs.Places.{Stored}

-- none of any sort
pub none_bytes : (link : Bool) {line : Result Entry Fault} {e : Entry} → line ≡ Ok e → e ≡ Nothing → bytes_of link line ≡ []
unfolding bytes_of part_bytes link_bytes
none_bytes true is e = rw (is, e)
none_bytes false is e = rw (is, e)

pub fault_bytes : (link : Bool) {line : Result Entry Fault} {f : Fault} → line ≡ Err f → bytes_of link line ≡ []
unfolding bytes_of part_bytes link_bytes
fault_bytes true e = rw e
fault_bytes false e = rw e

-- those of a part, and of a link
module _ {link : Bool} {line : Result Entry Fault} {e : Entry} (is : line ≡ Ok e) {a b : ℕ} where
  pub part_bytes_lem : e ≡ Part a b → link ≡ false → bytes_of link line ≡ a ∷ b ∷ []
  unfolding bytes_of part_bytes
  part_bytes_lem p l = rw (is, p, l)

  pub part_passed : e ≡ Part a b → link ≡ true → bytes_of link line ≡ []
  unfolding bytes_of link_bytes
  part_passed p l = rw (is, p, l)

  pub link_bytes_lem : {c : ℕ} → e ≡ Link a b c → link ≡ true → bytes_of link line ≡ a ∷ b ∷ c ∷ []
  unfolding bytes_of link_bytes
  link_bytes_lem p l = rw (is, p, l)

  pub link_passed : {c : ℕ} → e ≡ Link a b c → link ≡ false → bytes_of link line ≡ []
  unfolding bytes_of part_bytes
  link_passed p l = rw (is, p, l)

-- ---- the sort of a line
pub none_sort : (link : Bool) (line : Result Entry Fault) → bytes_of link line ≡ [] → false ≡ is_of link line
unfolding is_of
none_sort link line e = rw e

pub part_sort : (link : Bool) {line : Result Entry Fault} {e : Entry} {a b : ℕ} → line ≡ Ok e → e ≡ Part a b → not link ≡ is_of link line
unfolding is_of
part_sort true is p = rw (part_passed is p refl)
part_sort false is p = rw (part_bytes_lem is p refl)

pub link_sort : (link : Bool) {line : Result Entry Fault} {e : Entry} {a b c : ℕ} → line ≡ Ok e → e ≡ Link a b c → link ≡ is_of link line
unfolding is_of
link_sort true is p = rw (link_bytes_lem is p refl)
link_sort false is p = rw (link_passed is p refl)

-- ---- three bytes at most
pub three : (link : Bool) (line : Result Entry Fault) → length (bytes_of link line) ≤ 3
unfolding bytes_of part_bytes link_bytes
three true (Ok Nothing) = omega arith
three true (Ok (Part a b)) = omega arith
three true (Ok (Link a b c)) = omega arith
three true (Err f) = omega arith
three false (Ok Nothing) = omega arith
three false (Ok (Part a b)) = omega arith
three false (Ok (Link a b c)) = omega arith
three false (Err f) = omega arith

-- ---- bytes stored
pub stored_none : (link : Bool) (line : Result Entry Fault) (at : ℕ) (out : List ℕ) → bytes_of link line ≡ [] → Stored link line at out at out
stored_none link line at out h = record { place = rw h (omega arith); buffer = rw h }

pub stored_some : (link : Bool) (line : Result Entry Fault) (at : ℕ) (out : List ℕ) {bytes : List ℕ} {next : ℕ} {after : List ℕ}
    → bytes_of link line ≡ bytes → next ≡ at + length bytes → after ≡ sets out at bytes → Stored link line at out next after
stored_some link line at out h n a = record { place = rw h n; buffer = rw h a }
