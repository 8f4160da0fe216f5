-- How an outcome is told: the line it stands in, and the size of a table. Assumes nothing.
use mathlib.Core.Path.{◌≡◌, refl, sym, ◌∙◌, subst}
use mathlib.Core.Bool.{true, false}
use mathlib.Core.List.{List}
use Prim.Native.Nat.{ℕ}
use native.Mathlib.Omega.{arith}
use borrow.Author.Tests.{eq-eqb, ne_eqb}
use native.Mathlib.Decide.{ℕ_discrete}
use Rattle.model.specs.Limits.{DEVICES, LINKS}
use Rattle.model.specs.Logic.{when◌then◌else◌}
use Rattle.model.specs.Table.{TableAnswer}
use Rattle.std.specs.Prelude.{Result, ⊤, Ok, Err}
use Rattle.writer_answer.specs.declared.Refusal.{Refusal}
use Rattle.writer_answer.specs.declared.Refusal.TheVariants.{Limits, Device, Link, Room}
use Rattle.writer_answer.specs.Outcomes.{outcome_of, refusal_of}
use Rattle.list_text.specs.declared.Faulty.{Faulty}
use Rattle.list_text.specs.Texts.{fault_in, line_number}
use Rattle.list_make.specs.declared.Failure.{Failure}
use Rattle.list_make.specs.declared.Failure.TheVariants.{Refused}
use Rattle.list_make.specs.Making.{over_line, refused_line, made_from, makes_by, MakesOf}

-- ---- the line of the first entry past a limit: a is that of a device, b that of a link
module _ (text : List ℕ) {a : ℕ} (device : a ≡ line_number false text DEVICES) where
  pub over_link : a ≡ 0 → {b : ℕ} → b ≡ line_number true text LINKS → b ≡ over_line text
  unfolding over_line when◌then◌else◌
  over_link e f = rw (eq-eqb (line_number false text DEVICES) 0 (sym device ∙ e)) f

  pub over_device : (a ≡ 0 → ⊥) → a ≡ over_line text
  unfolding over_line when◌then◌else◌
  over_device n = rw (ne_eqb (line_number false text DEVICES) 0 (λ e. n (device ∙ e))) device

-- ---- the line of a refusal, by its number and its index
module _ (text : List ℕ) (number index : ℕ) {r : ℕ} where
  pub in_device : number ≡ 6 → r ≡ line_number false text index → r ≡ refused_line text number index
  unfolding refused_line when◌then◌else◌
  in_device e f = rw (eq-eqb number 6 e) f

  pub in_link : number ≡ 7 → r ≡ line_number true text index → r ≡ refused_line text number index
  unfolding refused_line when◌then◌else◌
  in_link e f = rw e f

  pub in_neither : (number ≡ 6 → ⊥) → (number ≡ 7 → ⊥) → r ≡ over_line text → r ≡ refused_line text number index
  unfolding refused_line when◌then◌else◌
  in_neither a b f = rw (ne_eqb number 6 a, ne_eqb number 7 b) f

-- of the writer's own refusals
module _ (text : List ℕ) {r : Refusal} {x : ℕ} where
  pub of_device : {p q : ℕ} → r ≡ Device p → q ≡ p → x ≡ line_number false text q → x ≡ refused_line text (refusal_of r).number (refusal_of r).index
  of_device {p} is e f = rw is (in_device text 6 p refl (rw e at f))

  pub of_link : {i q : ℕ} → r ≡ Link i → q ≡ i → x ≡ line_number true text q → x ≡ refused_line text (refusal_of r).number (refusal_of r).index
  of_link {i} is e f = rw is (in_link text 7 i refl (rw e at f))

  pub past_limits : r ≡ Limits → x ≡ over_line text → x ≡ refused_line text (refusal_of r).number (refusal_of r).index
  past_limits is f = rw is (in_neither text 4 0 (λ z. omega arith) (λ z. omega arith) f)

  pub no_room : r ≡ Room → x ≡ over_line text → x ≡ refused_line text (refusal_of r).number (refusal_of r).index
  no_room is f = rw is (in_neither text 8 0 (λ z. omega arith) (λ z. omega arith) f)

-- ---- an outcome
module _ (text : List ℕ) (a : TableAnswer) (size : ℕ) where
  pub table_told : a.number ≡ 0 → Ok size ≡ made_from text a size
  unfolding made_from when◌then◌else◌
  table_told e = rw (eq-eqb a.number 0 e)

  pub refusal_told : (a.number ≡ 0 → ⊥) → {n i l : ℕ} → n ≡ a.number → i ≡ a.index → l ≡ refused_line text n i
      → Err (Refused (record { number = n; index = i; line = l })) ≡ made_from text a size
  unfolding made_from when◌then◌else◌
  refusal_told z e f g = rw (ne_eqb a.number 0 z, g, e, f)

-- a refusal has a number
some_number : (r : Refusal) → (refusal_of r).number ≡ 0 → ⊥
some_number Limits e = omega arith
some_number (Device p) e = omega arith
some_number (Link i) e = omega arith
some_number Room e = omega arith

pub outcome_written : (text : List ℕ) (size : ℕ) {o : Result ⊤ Refusal} {u : ⊤} → o ≡ Ok u → Ok size ≡ made_from text (outcome_of o) size
outcome_written text size e = rw e (table_told text (record { number = 0; index = 0 }) size refl)

pub outcome_refused : (text : List ℕ) (size : ℕ) {o : Result ⊤ Refusal} (r : Refusal) → o ≡ Err r → {n i l : ℕ}
    → n ≡ (refusal_of r).number → i ≡ (refusal_of r).index → l ≡ refused_line text (refusal_of r).number (refusal_of r).index
    → Err (Refused (record { number = n; index = i; line = l })) ≡ made_from text (outcome_of o) size
outcome_refused text size r e n i l = rw e (refusal_told text (refusal_of r) size (some_number r) n i (rw (n, i) l))

-- the size matters only where the table is written
pub same_size : (text : List ℕ) (a : TableAnswer) (s t : ℕ) → (a.number ≡ 0 → s ≡ t) → made_from text a s ≡ made_from text a t
unfolding made_from when◌then◌else◌
same_size text a s t f =
    elim (ℕ_discrete a.number 0) [
      | yes e ↦ rw (eq-eqb a.number 0 e, f e)
      | no z ↦ rw (ne_eqb a.number 0 z)
    ]

-- ---- a text, by its first faulty line
pub by_fault : {text buffer : List ℕ} (g : Result ⊤ Faulty) {f : Result ⊤ Faulty} {r : Result ℕ Failure} {after : List ℕ} → f ≡ fault_in text → f ≡ g → makes_by g text buffer r after
    → MakesOf text buffer r after
by_fault {text} {buffer} g {f} {r} {after} e k m = record { told = subst (λ (x : Result ⊤ Faulty). makes_by x text buffer r after) (sym k ∙ e) m }
