-- Spans of a form laid into arrays. Assumes nothing.
use mathlib.Core.Path.{◌≡◌, refl, sym, ◌∙◌, ap}
use mathlib.Core.Bool.{Bool, true, false}
use mathlib.Core.List.{List, [], ◌∷◌, ◌++◌}
use Prim.Native.Nat.{ℕ, suc, ◌+◌, ◌*◌, ◌-◌, ◌<◌, ◌≤◌}
use native.Mathlib.Omega.{arith}
use native.Mathlib.Numerals.{add-one}
use lib.ListN.{length, get_or, take, drop, drop_of_length-le}
use lib.Seq.{take_all, drop-cons}
use Rattle.model.specs.Logic.{when◌then◌else◌}
use Rattle.model.specs.Feed.{over}
use Rattle.memory.specs.Layout.{area}
use Rattle.memory.proofs.Pages.{area_length}
use Rattle.saved_form.specs.declared.Array.TheVariants.{Bytes}
use Rattle.saved_form.specs.declared.Span.{Span}
use Rattle.saved_form.specs.Words.{words_from}
use Rattle.saved_form.specs.Restoring.{in_words, width, cells_in, laid, bytes_by, words_by}
use Rattle.saved_form.proofs.Words.{words_count}
use Rattle.saved_copy.proofs.Parts.{again, part_long, laid_part, laid_put, laid_long}
use Rattle.saved_read.specs.Reads.{Fits, AllFit, Placed, Filled}

-- ---- parts by their ends, as the code lends them
module _ (f xs : List ℕ) (at to n w : ℕ) where
  pub bytes_long : w ≡ n → at + n ≤ length f → to + n ≤ length xs → length (take (to + n - to) (drop to xs)) ≡ length (take (at + w - at) (drop at f))
  bytes_long k h l = part_long xs to n l ∙ sym (rw k (part_long f at n h))

  pub bytes_laid : {ys : List ℕ} → w ≡ n → at + n ≤ length f → ys ≡ take (at + w - at) (drop at f)
      → take to xs ++ (ys ++ drop (to + n - to) (drop to xs)) ≡ laid xs to (area at n f)
  unfolding area
  bytes_laid {ys} k h e = laid_put xs to n (area at n f) ys (area_length at n f h) (rw (k, again at n) at e)

  pub words_laid : {ys : List ℕ} → w ≡ 4 * n → at + 4 * n ≤ length f → to + n ≤ length xs
      → ys ≡ over (take (length (take (to + n - to) (drop to xs))) (words_from (take (at + w - at) (drop at f)))) (take (to + n - to) (drop to xs))
      → take to xs ++ (ys ++ drop (to + n - to) (drop to xs)) ≡ laid xs to (words_from (area at (4 * n) f))
  unfolding area
  words_laid {ys} k h l e =
      let many : length (words_from (area at (4 * n) f)) ≡ n = words_count (area at (4 * n) f) ∙ (let z = area_length at (4 * n) f h in omega arith) in
      let all = take_all n (words_from (area at (4 * n) f)) (omega arith) in
      laid_part xs to n l (words_from (area at (4 * n) f)) ys many (rw (k, part_long xs to n l, again at (4 * n), all) at e)

-- ---- a span fits
module _ {f : List ℕ} {p : Span} {bytes words : List ℕ} (h : Fits f p bytes words) where
  pub fits_words : in_words p ≡ true → (p.at + 4 * p.cells ≤ length f) × (p.to + p.cells ≤ length words)
  unfolding width when◌then◌else◌
  fits_words e = (rw e at h.within, rw e at h.room)

  pub fits_bytes : in_words p ≡ false → (p.at + p.cells ≤ length f) × (p.to + p.cells ≤ length bytes)
  unfolding width when◌then◌else◌
  fits_bytes e = (rw e at h.within, rw e at h.room)

-- the bytes that it has
module _ (p : Span) where
  pub width_words : in_words p ≡ true → width p ≡ 4 * p.cells
  unfolding width when◌then◌else◌
  width_words e = rw e

  pub width_bytes : in_words p ≡ false → width p ≡ p.cells
  unfolding width when◌then◌else◌
  width_bytes e = rw e

-- ---- and is laid
module _ (f : List ℕ) (p : Span) (bytes words : List ℕ) where
  pub placed_words : {after : List ℕ} → in_words p ≡ true → after ≡ laid words p.to (words_from (area p.at (4 * p.cells) f)) → Placed f p bytes words bytes after
  unfolding cells_in width when◌then◌else◌
  placed_words e h = record { in_bytes = rw e; in_words = rw e h }

  pub placed_bytes : {after : List ℕ} → in_words p ≡ false → after ≡ laid bytes p.to (area p.at p.cells f) → Placed f p bytes words after words
  unfolding cells_in width when◌then◌else◌
  placed_bytes e h = record { in_bytes = rw e h; in_words = rw e }

-- ---- one span after another
abbrev no_span : Span
no_span = record { array = Bytes; at = 0; cells = 0; to = 0 }

-- the arrays keep their lengths
module _ {f : List ℕ} {p : Span} {bytes words bytes₁ words₁ : List ℕ} (h : Fits f p bytes words) (g : Placed f p bytes words bytes₁ words₁) where
  placed_long : (w : Bool) → in_words p ≡ w → (length bytes₁ ≡ length bytes) × (length words₁ ≡ length words)
  unfolding cells_in width when◌then◌else◌
  placed_long true e =
      let (within, room) = fits_words h e in
      let many : length (words_from (area p.at (4 * p.cells) f)) ≡ p.cells =
      words_count (area p.at (4 * p.cells) f) ∙ (let z = area_length p.at (4 * p.cells) f within in omega arith) in
      let b = rw e at g.in_bytes in
      let w = rw e at g.in_words in
      (ap length b, ap length w ∙ laid_long words _ p.to p.cells many room)
  placed_long false e =
      let (within, room) = fits_bytes h e in
      let b = rw e at g.in_bytes in
      let w = rw e at g.in_words in
      (ap length b ∙ laid_long bytes _ p.to p.cells (area_length p.at p.cells f within) room, ap length w)

-- with the first k spans laid, the others lead where all of them lead
pub record Filling (f : List ℕ) (ps : List Span) (k : ℕ) (bytes₀ words₀ bytes words : List ℕ) : Type 0 where
  pub fit : AllFit f (drop k ps) bytes words
  pub long_bytes : length bytes ≡ length bytes₀
  pub long_words : length words ≡ length words₀
  pub in_bytes : bytes_by f (drop k ps) bytes ≡ bytes_by f ps bytes₀
  pub in_words : words_by f (drop k ps) words ≡ words_by f ps words₀

pub filling_none : (f : List ℕ) (ps : List Span) (bytes words : List ℕ) → AllFit f ps bytes words → Filling f ps 0 bytes words bytes words
filling_none f ps bytes words h = record { fit = h; long_bytes = refl; long_words = refl; in_bytes = refl; in_words = refl }

-- what fits two arrays fits others of their lengths
all_fit : (f : List ℕ) (ps : List Span) (bytes words bytes₁ words₁ : List ℕ) → length bytes₁ ≡ length bytes → length words₁ ≡ length words → AllFit f ps bytes words → AllFit f ps bytes₁ words₁
unfolding AllFit
all_fit f [] x y z u b w h = tt
all_fit f (p ∷ ps) x y z u b w h = (record { within = h.0.within; room = rw (b, w) h.0.room }, all_fit f ps x y z u b w h.1)

module _ {f : List ℕ} {ps : List Span} {k : ℕ} {bytes₀ words₀ bytes words : List ℕ} (l : k < length ps) (h : Filling f ps k bytes₀ words₀ bytes words) where
  next_fits : Fits f (get_or ps k no_span) bytes words × AllFit f (drop (suc k) ps) bytes words
  unfolding AllFit
  next_fits = rw (drop-cons ps k no_span l) at h.fit

  pub one_fits : Fits f (get_or ps k no_span) bytes words
  one_fits = next_fits.0

  pub filling_one : (bytes₁ words₁ : List ℕ) → Placed f (get_or ps k no_span) bytes words bytes₁ words₁ → Filling f ps (k + 1) bytes₀ words₀ bytes₁ words₁
  unfolding bytes_by words_by
  filling_one bytes₁ words₁ g =
      let (b, w) = placed_long one_fits g (in_words (get_or ps k no_span)) refl in
      let cons = drop-cons ps k no_span l in
      record {
        fit = rw (add-one k) (all_fit f (drop (suc k) ps) bytes words bytes₁ words₁ b w next_fits.1);
        long_bytes = b ∙ h.long_bytes;
        long_words = w ∙ h.long_words;
        in_bytes = rw (add-one k, g.in_bytes) (rw cons at h.in_bytes);
        in_words = rw (add-one k, g.in_words) (rw cons at h.in_words);
      }

pub filling_all : {f : List ℕ} {ps : List Span} {k : ℕ} {bytes₀ words₀ bytes words : List ℕ} → length ps ≤ k → Filling f ps k bytes₀ words₀ bytes words → Filled f ps bytes₀ words₀ bytes words
unfolding bytes_by words_by
filling_all {f} {ps} {k} l h =
    let none = drop_of_length-le ps {i = k} l in
    record { in_bytes = rw none at h.in_bytes; in_words = rw none at h.in_words }
