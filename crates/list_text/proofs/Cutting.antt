-- A text is its first line, and the lines after its first line feed. Assumes nothing.
use mathlib.Core.Path.{◌≡◌, refl, ◌∙◌}
use mathlib.Core.Bool.{Bool, true, false, not, cond}
use mathlib.Core.List.{List, [], ◌∷◌, map}
use Prim.Native.Nat.{ℕ, suc, ◌+◌, ◌-◌, ◌≤◌, ◌<◌}
use native.Mathlib.Omega.{arith}
use native.Mathlib.Numerals.{add-one}
use lib.Dec.{eqb, leb, leb-suc-suc}
use lib.ListN.{length, get_or, take, drop, length-drop, drop_of_length-le}
use lib.Seq.{drop-cons, drop-drop}
use borrow.Author.Tests.{eq-eqb, ne_eqb, le-leb, lt-leb, leb-true, leb-false}
use Rattle.model.specs.Logic.{when◌then◌else◌}
use Rattle.std.specs.Prelude.{Result}
use Rattle.std.specs.List.{prefix_len}
use Rattle.list_lines.specs.declared.entries.Entry.{Entry}
use Rattle.list_lines.specs.declared.entries.Fault.{Fault}
use Rattle.list_lines.specs.Lines.{entry_in}
use Rattle.list_lines.proofs.Empty.{empty_nothing}
use Rattle.list_text.specs.Texts.{in_front, lines_of, entries_of}
use Rattle.list_text.specs.Places.{before, entries_from, Stopped, Read}

-- ---- the law of lines
-- the lines from a place on; past the end there is none
abbrev lines_from : ℕ → List ℕ → List (List ℕ)
lines_from i s = when leb i (length s) then lines_of (drop i s) else []

step : (c : Bool) (b : ℕ) (t : List ℕ) → lines_of t ≡ take (before t) t ∷ lines_from (suc (before t)) t
    → (when c then [] ∷ lines_of t else in_front b (lines_of t))
    ≡ take (when c then 0 else suc (before t)) (b ∷ t) ∷ lines_from (suc (when c then 0 else suc (before t))) (b ∷ t)
unfolding in_front when◌then◌else◌
step true b t h = rw (le-leb 1 (suc (length t)) (omega arith))
step false b t h = rw (h, leb-suc-suc (suc (before t)) (length t))

pub first_line : (s : List ℕ) → lines_of s ≡ take (before s) s ∷ lines_from (suc (before s)) s
unfolding lines_of before when◌then◌else◌
first_line [] = refl
first_line (b ∷ t) = step (eqb b 10) b t (first_line t)

-- ---- the same from a place on
within : (i j m n : ℕ) → i ≤ n → m ≡ n - i → (b : Bool) → leb (i + j) n ≡ b → leb j m ≡ b
within i j m n h e true f = let g = leb-true (i + j) n f in le-leb j m (omega arith)
within i j m n h e false f = let g = leb-false (i + j) n f in lt-leb j m (omega arith)

from_place : (i j : ℕ) (s : List ℕ) → i ≤ length s → lines_from j (drop i s) ≡ lines_from (i + j) s
from_place i j s h = rw (within i j (length (drop i s)) (length s) h (length-drop i s) (leb (i + j) (length s)) refl, drop-drop j i s)

-- ---- the byte at a place
module _ (s : List ℕ) (i : ℕ) where
  pub feed_here : i < length s → get_or s i 0 ≡ 10 → before (drop i s) ≡ 0
  unfolding before when◌then◌else◌
  feed_here more e = rw (drop-cons s i 0 more, eq-eqb (get_or s i 0) 10 e)

  pub feed_on : i < length s → (get_or s i 0 ≡ 10 → ⊥) → before (drop i s) ≡ suc (before (drop (i + 1) s))
  unfolding before when◌then◌else◌
  feed_on more e = rw (add-one i, drop-cons s i 0 more, ne_eqb (get_or s i 0) 10 e)

  pub feed_none : length s ≤ i → before (drop i s) ≡ 0
  unfolding before
  feed_none h = rw (drop_of_length-le s h)

-- ---- the bytes before the first line feed
before_if : (c : Bool) (n m : ℕ) → n ≡ m → cond (not c) (1 + n) 0 ≡ (when c then 0 else suc m)
unfolding when◌then◌else◌
before_if true n m e = refl
before_if false n m e = omega arith

before_is : (s : List ℕ) → prefix_len (λ b. not (eqb b 10)) s ≡ before s
unfolding before
before_is [] = refl
before_is (b ∷ s) = before_if (eqb b 10) (prefix_len (λ b. not (eqb b 10)) s) (before s) (before_is s)

pub stops : (s : List ℕ) (start : ℕ) {n : ℕ} → start ≤ length s → n ≡ prefix_len (λ b. not (eqb b 10)) (drop start s) → n ≤ length (drop start s)
    → Stopped s start (start + n)
stops s start h e l =
    let b = before_is (drop start s) in
    let d = length-drop start s in
    record { is = omega arith; low = omega arith; high = omega arith }

-- ---- the line that starts at a place
entries_lines : (i : ℕ) (s : List ℕ) → entries_from i s ≡ map entry_in (lines_from i s)
unfolding entries_from entries_of when◌then◌else◌
entries_lines i s = test (leb i (length s))
  where
    test : (c : Bool) → (when c then map entry_in (lines_of (drop i s)) else []) ≡ map entry_in (when c then lines_of (drop i s) else [])
    test true = refl
    test false = refl

module _ {s : List ℕ} {start stop : ℕ} (inside : start ≤ length s) (stopped : Stopped s start stop) where
  part : take (before (drop start s)) (drop start s) ≡ take (stop - start) (drop start s)
  part = let e = stopped.is in let n : before (drop start s) ≡ stop - start = omega arith in rw n

  lines_here : lines_from start s ≡ take (stop - start) (drop start s) ∷ lines_from (stop + 1) s
  unfolding when◌then◌else◌
  lines_here =
      let e = stopped.is in
      let n : start + suc (before (drop start s)) ≡ stop + 1 = omega arith in
      rw (le-leb start (length s) inside) (first_line (drop start s) ∙ rw (part, from_place start (suc (before (drop start s))) s inside, n))

  pub line_read : {entry : Result Entry Fault} → entry ≡ entry_in (take (stop - start) (drop start s)) → Read s start entry (stop + 1)
  line_read {entry} e =
      let next = entries_lines (stop + 1) s in
      let low = stopped.low in
      let high = stopped.high in
      record {
        low = omega arith;
        high = omega arith;
        first = entries_lines start s ∙ rw (lines_here, e, next);
        empty = λ q. let n : stop - start ≡ 0 = omega arith in e ∙ rw n empty_nothing;
      }

-- ---- all lines, and none
pub all_left : (s : List ℕ) → entries_from 0 s ≡ entries_of s
unfolding entries_from when◌then◌else◌
all_left s = rw (le-leb 0 (length s) (omega arith))

pub none_left : (i : ℕ) (s : List ℕ) → length s < i → entries_from i s ≡ []
unfolding entries_from when◌then◌else◌
none_left i s h = rw (lt-leb i (length s) h)
