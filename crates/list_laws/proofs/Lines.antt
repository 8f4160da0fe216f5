-- A text of whole lines: each line is what stands before its line feed. Assumes nothing.
use mathlib.Core.Path.{◌≡◌, refl, sym, ◌∙◌, ap}
use mathlib.Core.Bool.{Bool, true, false, not}
use mathlib.Core.List.{List, [], ◌∷◌, ◌++◌, append_assoc}
use Prim.Native.Nat.{ℕ, zero, suc, ◌<◌}
use native.Mathlib.Omega.{arith}
use lib.Dec.{eqb}
use Rattle.model.specs.Logic.{when◌then◌else◌, ◌and◌}
use Rattle.model.proofs.Basics.{never, and_parts, and_of}
use Rattle.std.specs.Prelude.{Result, Ok}
use Rattle.list_lines.specs.declared.entries.Entry.{Entry}
use Rattle.list_lines.specs.declared.entries.Fault.{Fault}
use Rattle.list_lines.specs.declared.entries.Entry.TheVariants.{Nothing}
use Rattle.list_lines.specs.Lines.{entry_in}
use Rattle.list_lines.proofs.Empty.{empty_nothing}
use Rattle.list_text.specs.Texts.{in_front, lines_of, entries_of, part_bytes, link_bytes, bytes_of, bytes_in, gathered, fault_from}
use Rattle.list_laws.specs.Printed.{joined}

-- ---- no line feed in it
unfoldable pub plain : List ℕ → Bool
plain [] = true
plain (b ∷ w) = not (eqb b 10) and plain w

pub plain_both : (v w : List ℕ) → plain v ≡ true → plain w ≡ true → plain (v ++ w) ≡ true
unfolding plain
plain_both [] w e f = f
plain_both (b ∷ v) w e f = let p = and_parts (not (eqb b 10)) (plain v) e in and_of _ _ p.0 (plain_both v w p.1 f)

-- ---- the first line
cut : (c : Bool) (b : ℕ) (w rest : List ℕ) → not c ≡ true → (more : List (List ℕ)) → lines_of rest ≡ w ∷ more
    → (when c then [] ∷ lines_of rest else in_front b (lines_of rest)) ≡ (b ∷ w) ∷ more
unfolding when◌then◌else◌ in_front
cut true b w rest e more f = never {x = false} e refl
cut false b w rest e more f = rw f

pub line_cut : (w rest : List ℕ) → plain w ≡ true → lines_of (w ++ 10 ∷ rest) ≡ w ∷ lines_of rest
unfolding lines_of plain when◌then◌else◌
line_cut [] rest e = refl
line_cut (b ∷ w) rest e = let p = and_parts (not (eqb b 10)) (plain w) e in cut (eqb b 10) b w (w ++ 10 ∷ rest) p.0 (lines_of rest) (line_cut w rest p.1)

pub entry_cut : (w rest : List ℕ) {e : Result Entry Fault} → plain w ≡ true → entry_in w ≡ e → entries_of (w ++ 10 ∷ rest) ≡ e ∷ entries_of rest
unfolding entries_of
entry_cut w rest p e = rw (line_cut w rest p, e)

-- ---- texts of whole lines, line k of which is w k and says e k
-- the first of them before the others
pub first_of : (v j rest : List ℕ) → ((v ++ 10 ∷ []) ++ j) ++ rest ≡ v ++ 10 ∷ (j ++ rest)
first_of v j rest = append_assoc (v ++ 10 ∷ []) j rest ∙ append_assoc v (10 ∷ []) (j ++ rest)

-- what is gathered of them
pub gathered_joined : (link : Bool) (w : ℕ → List ℕ) (e : ℕ → Result Entry Fault) (n : ℕ) (rest : List ℕ)
    → ((k : ℕ) → k < n → plain (w k) ≡ true)
    → ((k : ℕ) → k < n → entry_in (w k) ≡ e k)
    → gathered link (joined (λ k. w k ++ 10 ∷ []) n ++ rest) ≡ joined (λ k. bytes_of link (e k)) n ++ gathered link rest
unfolding joined gathered bytes_in
gathered_joined link w e zero rest p s = refl
gathered_joined link w e (suc n) rest p s =
    let j = joined (λ k. w (suc k) ++ 10 ∷ []) n in
    let i = gathered_joined link (λ k. w (suc k)) (λ k. e (suc k)) n rest (λ k l. p (suc k) (omega arith)) (λ k l. s (suc k) (omega arith)) in
    rw (first_of (w 0) j rest, entry_cut (w 0) (j ++ rest) (p 0 (omega arith)) (s 0 (omega arith)))
    (ap (λ (x : List ℕ). bytes_of link (e 0) ++ x) i ∙ sym (append_assoc (bytes_of link (e 0)) (joined (λ k. bytes_of link (e (suc k))) n) (bytes_in link (entries_of rest))))

-- and no line of them is faulty: lines are numbered from j
pub faultless : (w : ℕ → List ℕ) (e : ℕ → Result Entry Fault) (n : ℕ) (rest : List ℕ) (j : ℕ)
    → ((k : ℕ) → k < n → plain (w k) ≡ true)
    → ((k : ℕ) → k < n → entry_in (w k) ≡ e k)
    → ((k i : ℕ) (es : List (Result Entry Fault)) → fault_from i (e k ∷ es) ≡ fault_from (suc i) es)
    → ((i : ℕ) → fault_from i (entries_of rest) ≡ Ok tt)
    → fault_from j (entries_of (joined (λ k. w k ++ 10 ∷ []) n ++ rest)) ≡ Ok tt
unfolding joined
faultless w e zero rest j p s g r = r j
faultless w e (suc n) rest j p s g r =
    let x = joined (λ k. w (suc k) ++ 10 ∷ []) n in
    rw (first_of (w 0) x rest, entry_cut (w 0) (x ++ rest) (p 0 (omega arith)) (s 0 (omega arith)))
    (g 0 j (entries_of (x ++ rest))
    ∙ faultless (λ k. w (suc k)) (λ k. e (suc k)) n rest (suc j) (λ k l. p (suc k) (omega arith)) (λ k l. s (suc k) (omega arith)) (λ k. g (suc k)) r)

-- ---- after them there is an empty line, which says nothing
pub at_end : entries_of [] ≡ Ok Nothing ∷ []
unfolding entries_of lines_of
at_end = rw empty_nothing

pub end_gathered : (link : Bool) → gathered link [] ≡ []
unfolding gathered bytes_in bytes_of part_bytes link_bytes
end_gathered true = rw at_end
end_gathered false = rw at_end

pub end_faultless : (i : ℕ) → fault_from i (entries_of []) ≡ Ok tt
unfolding fault_from
end_faultless i = rw at_end
