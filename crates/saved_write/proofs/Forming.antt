-- A form laid part after part. Assumes nothing.
use mathlib.Core.Path.{◌≡◌, refl, sym, ◌∙◌, ap}
use mathlib.Core.List.{List, ◌++◌, append_assoc}
use Prim.Native.Nat.{ℕ, ◌+◌, ◌*◌, ◌-◌, ◌/◌, ◌<◌, ◌≤◌}
use native.Mathlib.Omega.{arith}
use lib.ListN.{length, take, drop, length-append}
use lib.Seq.{take_all, take_at, drop_at, drop-drop}
use borrow.Author.Tests.{le-leb, lt-leb}
use Rattle.model.specs.Logic.{when◌then◌else◌}
use Rattle.model.specs.Feed.{over}
use Rattle.memory.specs.Layout.{BYTES, WORDS, state_in}
use Rattle.memory.proofs.Inverse.{bytes_of_lem, words_of_lem}
use Rattle.saved_form.specs.Words.{word_bytes}
use Rattle.saved_form.specs.Form.{HEADER, FORM, header, form}
use Rattle.saved_form.specs.Restoring.{laid}
use Rattle.saved_form.proofs.Words.{bytes_count}
use Rattle.saved_copy.proofs.Parts.{part_long, laid_part}
use Rattle.saved_answer.specs.declared.SaveRefusal.TheVariants.{Room}
use Rattle.std.specs.Prelude.{Ok, Err}
use Rattle.saved_write.specs.Writes.{WriteIs}

-- ---- parts by their ends, as the code lends them
quarter : (n : ℕ) → 4 * n / 4 ≡ n
quarter n = omega arith

pub words_put : (from xs ys : List ℕ) (at : ℕ) → at + 4 * length from ≤ length xs
    → ys ≡ over (word_bytes (take (length (take (at + 4 * length from - at) (drop at xs)) / 4) from)) (take (at + 4 * length from - at) (drop at xs))
    → take at xs ++ (ys ++ drop (at + 4 * length from - at) (drop at xs)) ≡ laid xs at (word_bytes from)
words_put from xs ys at h e =
    let n = 4 * length from in
    let all = take_all (length from) from (omega arith) in
    laid_part xs at n h (word_bytes from) ys (bytes_count from) (rw (part_long xs at n h, quarter (length from), all) at e)

-- ---- the parts together
-- over what stands after a: s, and then the rest of d
onto : (a d s : List ℕ) (at n : ℕ) → length a ≡ at → length s ≡ n → laid (a ++ drop at d) at s ≡ (a ++ s) ++ drop (at + n) d
unfolding laid
onto a d s at n e f =
    rw (take_at a (drop at d) at e, f, ← drop-drop n at (a ++ drop at d), drop_at a (drop at d) at e, drop-drop n at d) (sym (append_assoc a s (drop (at + n) d)))

header_long : length header ≡ HEADER
unfolding header
header_long = refl

headed : (d : List ℕ) → laid d 0 header ≡ header ++ drop HEADER d
unfolding laid header
headed d = refl

-- the form of the state in two arrays, from the arrays themselves
abbrev form_in : List ℕ → List ℕ → List ℕ
form_in bytes words = header ++ (bytes ++ word_bytes words)

module _ (bytes words d : List ℕ) (b : length bytes ≡ BYTES) (w : length words ≡ WORDS) where
  pub formed : {x y z : List ℕ} → x ≡ laid d 0 header → y ≡ laid x HEADER bytes → z ≡ laid y (HEADER + BYTES) (word_bytes words) → z ≡ over (form (state_in bytes words)) d
  unfolding form
  formed {x} {y} {z} f g h =
      let n : length (word_bytes words) ≡ 4 * WORDS = bytes_count words ∙ ap (λ (k : ℕ). 4 * k) w in
      let k = header_long in
      let l : length (header ++ bytes) ≡ HEADER + BYTES = length-append header bytes ∙ omega arith in
      let first : y ≡ (header ++ bytes) ++ drop (HEADER + BYTES) d = g ∙ rw (f, headed d) (onto header d bytes HEADER BYTES k b) in
      let rest = onto (header ++ bytes) d (word_bytes words) (HEADER + BYTES) (4 * WORDS) l n in
      let long : length (form_in bytes words) ≡ HEADER + BYTES + 4 * WORDS =
      length-append header (bytes ++ word_bytes words) ∙ (let q = length-append bytes (word_bytes words) in omega arith) in
      rw (bytes_of_lem bytes words b, words_of_lem bytes words w) (h ∙ rw (first, rest, append_assoc header bytes (word_bytes words), long))

-- ---- what writing answers
pub no_room : {bytes words out : List ℕ} → length out < FORM → WriteIs bytes words out (Err Room) out
unfolding when◌then◌else◌
no_room l = record { room = rw (lt-leb _ _ l); buffer = rw (lt-leb _ _ l) }

pub written : {bytes words out after : List ℕ} → FORM ≤ length out → after ≡ over (form (state_in bytes words)) out → WriteIs bytes words out (Ok tt) after
unfolding when◌then◌else◌
written l e = record { room = rw (le-leb _ _ l); buffer = rw (le-leb _ _ l) e }
