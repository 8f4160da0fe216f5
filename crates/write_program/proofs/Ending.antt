-- How the program ends, by what became of the list. Assumes nothing.
use mathlib.Core.Path.{◌≡◌, refl, sym, ap, subst}
use mathlib.Core.Bool.{Bool, true, false}
use mathlib.Core.List.{List}
use mathlib.Core.Logic.{◌⊎◌, ⊎_elim}
use Prim.Native.Nat.{ℕ, ◌+◌, ◌*◌, ◌≤◌}
use lib.ListN.{length}
use borrow.Author.Tests.{eq-eqb, ne_eqb}
use Rattle.model.specs.Limits.{DEVICES, LINKS}
use Rattle.model.specs.Logic.{when◌then◌else◌}
use Rattle.model.proofs.Basics.{never}
use Rattle.replay_text.specs.declared.line.Line.{Line}
use Rattle.replay_text.specs.Line.{line_of}
use Rattle.list_report.specs.Lines.{refused_text, nowhere_text}
use Rattle.std.specs.Prelude.{Result, Ok, Err}
use Rattle.list_make.specs.declared.Failure.{Failure}
use Rattle.list_make.specs.declared.Refusal.{Refusal}
use Rattle.list_make.specs.Making.{MakesOf}
use Rattle.program_end.specs.declared.End.{End}
use Rattle.program_end.specs.declared.End.TheVariants as end
use Rattle.write_program.specs.Ends.{refusal_line, ends_by, EndsBy, ListEnds}
use Rattle.write_program.proofs.Making.{found, good, becomes}

-- ---- the line of a refusal
module _ (r : Refusal) {n i : ℕ} {l : Line} (number : n ≡ r.number) (index : i ≡ r.index) where
  pub in_no_line : r.line ≡ 0 → l ≡ line_of (nowhere_text n i) → l ≡ refusal_line r
  unfolding refusal_line when◌then◌else◌
  in_no_line z e = rw (eq-eqb r.line 0 z, ← number, ← index) e

  pub in_a_line : (r.line ≡ 0 → ⊥) → l ≡ line_of (refused_text n i r.line) → l ≡ refusal_line r
  unfolding refusal_line when◌then◌else◌
  in_a_line z e = rw (ne_eqb r.line 0 z, ← number, ← index) e

-- ---- an end, by the variant
pub ended : (g : Result ℕ Failure) {m : Result ℕ Failure} {r : End} → m ≡ g → ends_by g r → EndsBy m r
ended g {m} {r} e h = record { ends = subst (λ (x : Result ℕ Failure). ends_by x r) (sym e) h }

abbrev is_done : End → Bool
is_done end.Done = true
is_done end.Refused = false
is_done end.Wrong = false
is_done end.Failed = false
is_done end.Stopped = false

not_done : {A : Type 0} {r : End} → (r ≡ end.Refused) ⊎ (r ≡ end.Failed) → r ≡ end.Done → A
not_done h e = ⊎_elim (λ f. never (ap is_done e) (ap is_done f)) (λ f. never (ap is_done e) (ap is_done f)) h

-- only a table ends with 0
tabled : (m : Result ℕ Failure) {r : End} → ends_by m r → r ≡ end.Done → (size : ℕ) × (m ≡ Ok size)
tabled (Ok s) h e = (s, refl)
tabled (Err f) h e = not_done h e

pub list_ends : (text buffer : List ℕ) (made : Result ℕ Failure) {after : List ℕ} {r : End} → 7 + 2 * DEVICES + 3 * LINKS ≤ length buffer → MakesOf text buffer made after → EndsBy made r
    → ListEnds text r
list_ends text buffer made {after} {r} room m h =
    record {
      good = λ g. subst (λ (x : Result ℕ Failure). ends_by x r) (becomes text buffer room g m) h.ends;
      done = λ e. let t = tabled made h.ends e in good (found text buffer t.0 t.1 m);
    }
