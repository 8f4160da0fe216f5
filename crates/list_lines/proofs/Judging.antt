-- The lines of a part and of a link, by what their words are. Assumes nothing.
use Rattle.std.proofs.Common.{◌≡◌, sym, ◌∙◌, Bool, true, false, List, Result, Ok, Err, ℕ, eqb, length}
use Rattle.std.specs.Str.{bytes_eq}
use Rattle.model.specs.Limits.{NONE}
use Rattle.model.specs.Logic.{when◌then◌else◌}
use Rattle.replay_text.specs.Text.{ascii}
use Rattle.list_words.specs.Words.{word_in}
use Rattle.list_lines.specs.Numbers.{number_in, parent_in, both}
use Rattle.list_lines.specs.Lines.{part_of, link_of, part_in, link_in, entry_in}
use Rattle.list_lines.specs.declared.entries.Entry.{Entry}
use Rattle.list_lines.specs.declared.entries.Fault.{Fault}
use Rattle.list_lines.specs.declared.entries.Fault.TheVariants.{Wrong}
use Rattle.list_lines.specs.declared.entries.Entry.TheVariants.{Nothing}

-- each word of the line: w is word k, b whether it is empty
module _ (line : List ℕ) where
  pub part_long : {w : List ℕ} {b : Bool} → w ≡ word_in line 3 → b ≡ eqb (length w) 0 → b ≡ false → Err Wrong ≡ part_in line
  unfolding part_in when◌then◌else◌
  part_long w e f = rw (← w, sym e ∙ f)

  pub link_long : {w : List ℕ} {b : Bool} → w ≡ word_in line 4 → b ≡ eqb (length w) 0 → b ≡ false → Err Wrong ≡ link_in line
  unfolding link_in when◌then◌else◌
  link_long w e f = rw (← w, sym e ∙ f)

  pub part_is : {w u v : List ℕ} {b : Bool} {p n : Result ℕ Fault} {r : Result (ℕ × ℕ) Fault}
      → w ≡ word_in line 3 → b ≡ eqb (length w) 0 → b ≡ true
      → u ≡ word_in line 1 → p ≡ parent_in u → v ≡ word_in line 2 → n ≡ number_in v
      → r ≡ both p n → part_of r ≡ part_in line
  unfolding part_in when◌then◌else◌
  part_is w e f u p v n r = rw (← w, sym e ∙ f) (rw (← u, ← p, ← v, ← n, r))

  pub link_is : {w u v x : List ℕ} {b : Bool} {p n m : Result ℕ Fault} {q : Result (ℕ × ℕ) Fault} {r : Result (ℕ × (ℕ × ℕ)) Fault}
      → w ≡ word_in line 4 → b ≡ eqb (length w) 0 → b ≡ true
      → u ≡ word_in line 1 → p ≡ number_in u → v ≡ word_in line 2 → n ≡ number_in v → x ≡ word_in line 3 → m ≡ number_in x
      → q ≡ both n m → r ≡ both p q → link_of r ≡ link_in line
  unfolding link_in when◌then◌else◌
  link_is w e f u p v n x m q r = rw (← w, sym e ∙ f) (rw (← u, ← p, ← v, ← n, ← x, ← m, ← q, r))

-- ---- the word of a parent
module _ (w : List ℕ) {t : List ℕ} {b : Bool} (text : t ≡ ascii "none") (test : b ≡ bytes_eq w t) where
  pub parent_none : b ≡ true → Ok NONE ≡ parent_in w
  unfolding parent_in when◌then◌else◌
  parent_none e = rw (← text, sym test ∙ e)

  pub parent_number : b ≡ false → {r : Result ℕ Fault} → r ≡ number_in w → r ≡ parent_in w
  unfolding parent_in when◌then◌else◌
  parent_number e f = rw (← text, sym test ∙ e) f

-- ---- the first word of a line, and whether it is empty
module _ (line : List ℕ) {w : List ℕ} {b : Bool} (first : w ≡ word_in line 0) (empty : b ≡ eqb (length w) 0) where
  pub entry_none : b ≡ true → Ok Nothing ≡ entry_in line
  unfolding entry_in when◌then◌else◌
  entry_none e = rw (← first, sym empty ∙ e)

  -- it is that of a part
  module _ (some : b ≡ false) {t : List ℕ} {p : Bool} (text : t ≡ ascii "part") (test : p ≡ bytes_eq w t) where
    pub entry_part : p ≡ true → {r : Result Entry Fault} → r ≡ part_in line → r ≡ entry_in line
    unfolding entry_in when◌then◌else◌
    entry_part e f = rw (← first, sym empty ∙ some, ← text, sym test ∙ e) f

    -- it is not; it is that of a link
    module _ (other : p ≡ false) {u : List ℕ} {q : Bool} (text_link : u ≡ ascii "link") (test_link : q ≡ bytes_eq w u) where
      pub entry_link : q ≡ true → {r : Result Entry Fault} → r ≡ link_in line → r ≡ entry_in line
      unfolding entry_in when◌then◌else◌
      entry_link e f = rw (← first, sym empty ∙ some, ← text, sym test ∙ other) (rw (← text_link, sym test_link ∙ e) f)

      pub entry_wrong : q ≡ false → Err Wrong ≡ entry_in line
      unfolding entry_in when◌then◌else◌
      entry_wrong e = rw (← first, sym empty ∙ some, ← text, sym test ∙ other) (rw (← text_link, sym test_link ∙ e))
