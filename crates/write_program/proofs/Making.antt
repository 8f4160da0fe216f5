-- What is known of a list that has become a table. Assumes nothing.
use mathlib.Core.Path.{◌≡◌, refl, sym, ◌∙◌, ap, subst}
use mathlib.Core.Bool.{Bool, true, false}
use mathlib.Core.List.{List}
use Prim.Native.Nat.{ℕ, ◌+◌, ◌*◌, ◌≤◌}
use native.Mathlib.Omega.{arith}
use native.Mathlib.Decide.{ℕ_discrete}
use lib.ListN.{length, take, drop, length-append}
use lib.Seq.{take_at}
use borrow.Author.Tests.{ne_eqb}
use Rattle.model.specs.Logic.{when◌then◌else◌}
use Rattle.model.specs.Limits.{DEVICES, LINKS}
use Rattle.model.specs.Table.{TableAnswer}
use Rattle.model.specs.Writing.{table_of, Writing, written}
use Rattle.model.proofs.Basics.{never}
use Rattle.writer_laws.proofs.Given.{Given, limits, devices_whole_lem, table_long, given_good, good_given, given_writes, writes_given}
use Rattle.std.specs.Prelude.{Result, ⊤, Ok, Err}
use Rattle.list_text.specs.declared.Faulty.{Faulty}
use Rattle.list_text.specs.Texts.{fault_in}
use Rattle.list_make.specs.declared.Failure.{Failure}
use Rattle.list_make.specs.Making.{listed_devices, listed_links, writing_in, made_from, Makes, makes_by, MakesOf}
use Rattle.list_make.proofs.Telling.{table_told}
use Rattle.write_program.specs.Ends.{Good, MadeFor}

-- ---- the variants told apart
abbrev is_table : Result ℕ Failure → Bool
is_table (Ok s) = true
is_table (Err f) = false

abbrev size_of : Result ℕ Failure → ℕ
size_of (Ok s) = s
size_of (Err f) = 0

pub no_table : {A : Type 0} {m : Result ℕ Failure} {s : ℕ} → m ≡ Ok s → is_table m ≡ false → A
no_table e f = never (ap is_table e) f

refusal_no_table : (text : List ℕ) (a : TableAnswer) (size : ℕ) → (a.number ≡ 0 → ⊥) → is_table (made_from text a size) ≡ false
unfolding made_from when◌then◌else◌
refusal_no_table text a size n = rw (ne_eqb a.number 0 n)

-- ---- a text that has become a table of that size
pub record Found (text buffer new : List ℕ) (s : ℕ) : Type 0 where
  pub lines : fault_in text ≡ Ok tt
  pub number : (writing_in text buffer).answer.number ≡ 0
  pub size : s ≡ length (table_of (listed_devices text) (listed_links text))
  pub after : new ≡ (writing_in text buffer).buffer

module _ (text buffer : List ℕ) {made : Result ℕ Failure} {after : List ℕ} (size : ℕ) (e : made ≡ Ok size) where
  from_makes : fault_in text ≡ Ok tt → Makes text buffer made after → Found text buffer after size
  from_makes l m =
      let a = (writing_in text buffer).answer in
      let t = length (table_of (listed_devices text) (listed_links text)) in
      elim (ℕ_discrete a.number 0) [
        | yes z ↦ record { lines = l; number = z; size = ap size_of (sym e ∙ m.made ∙ sym (table_told text a t z)); after = m.table }
        | no n ↦ no_table e (ap is_table m.made ∙ refusal_no_table text a t n)
      ]

  by_fault : (f : Result ⊤ Faulty) → fault_in text ≡ f → makes_by f text buffer made after → Found text buffer after size
  by_fault (Ok u) k m = from_makes k m
  by_fault (Err f) k m = no_table e (ap is_table m.0)

  pub found : MakesOf text buffer made after → Found text buffer after size
  found m = by_fault (fault_in text) refl m.told

-- ---- it stands at the front of the buffer
module _ {text buffer after : List ℕ} {size : ℕ} (f : Found text buffer after size) where
  abbrev table : List ℕ
  table = table_of (listed_devices text) (listed_links text)

  given : Given (listed_devices text) (listed_links text) × (length table ≤ length buffer)
  given = writes_given (listed_devices text) (listed_links text) buffer f.number

  pub good : Good text
  good = record { lines = f.lines; lists = ap (λ (a : TableAnswer). a.number) (given_good given.0) }

  laid : after ≡ (written table buffer).buffer
  laid = f.after ∙ ap (λ (w : Writing). w.buffer) (given_writes given.0 buffer given.1)

  pub fits : size ≤ length after
  fits =
      let s = f.size in
      let e = ap length laid ∙ length-append table (drop (length table) buffer) in
      omega arith

  pub at_front : take size after ≡ table
  at_front = rw laid (take_at table _ size (sym f.size))

-- ---- so where there is a table, its bytes can be handed on
pub made_for : (text buffer : List ℕ) {made : Result ℕ Failure} {after : List ℕ} → MakesOf text buffer made after → MadeFor text made after
made_for text buffer m =
    record {
      room = λ size e. fits (found text buffer size e m);
      table = λ size e. let f = found text buffer size e m in record { whole = good f; is = at_front f };
    }

-- ---- and a good text becomes one, where the buffer has room for the longest table
pub becomes : (text buffer : List ℕ) {made : Result ℕ Failure} {after : List ℕ} → 7 + 2 * DEVICES + 3 * LINKS ≤ length buffer → Good text → MakesOf text buffer made after
    → made ≡ Ok (length (table_of (listed_devices text) (listed_links text)))
becomes text buffer {made} {after} room g m =
    let h = good_given (listed_devices text) (listed_links text) g.lists in
    let t = table_of (listed_devices text) (listed_links text) in
    let long = table_long (listed_devices text) (listed_links text) in
    let few = limits h in
    let whole = devices_whole_lem h in
    let w = given_writes h buffer (omega arith) in
    let k = subst (λ (f : Result ⊤ Faulty). makes_by f text buffer made after) g.lines m.told in
    k.made ∙ sym (table_told text (writing_in text buffer).answer (length t) (ap (λ (x : Writing). x.answer.number) w))
