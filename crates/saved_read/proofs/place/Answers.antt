-- `saved_read::place` meets its contract: the span goes to the array that it belongs to, the other stays. Assumes nothing.
use mathlib.Core.Path.{ap, ◌∙◌}
use borrow.Author.Rules.{rules}
use Rattle.saved_form.specs.Restoring.{are_words}
use Rattle.saved_read.proofs.Laying.{fits_words, fits_bytes, width_bytes, width_words, bytes_long, bytes_laid, words_laid, placed_words, placed_bytes}
use Rattle.saved_read.proofs.place.Goals as goal

-- bytes
pub overflow_add-span : goal.overflow_add-span
overflow_add-span c = let g = fits_bytes c.requires (ap are_words c.in-Bytes.is) in search rules

pub slice_bounds-copy_from_slice-end : goal.slice_bounds-copy_from_slice-end
slice_bounds-copy_from_slice-end c = let g = fits_bytes c.requires (ap are_words c.in-Bytes.is) in search rules

pub copy_from_slice-requires : goal.copy_from_slice-requires
copy_from_slice-requires c =
    let e = ap are_words c.in-Bytes.is in
    let g = fits_bytes c.requires e in
    bytes_long _ _ _ _ _ _ (c.width.ensures ∙ width_bytes _ e) g.0 g.1

pub returns-in-Bytes : goal.returns-in-Bytes
returns-in-Bytes c =
    let e = ap are_words c.in-Bytes.is in
    placed_bytes _ _ _ _ e (bytes_laid _ _ _ _ _ _ (c.width.ensures ∙ width_bytes _ e) (fits_bytes c.requires e).0 c.copy_from_slice.ensures.after)

-- words
pub overflow_add-span-in-Words : goal.overflow_add-span-in-Words
overflow_add-span-in-Words c = let g = fits_words c.requires (ap are_words c.in-Words.is) in search rules

pub offset_bounds-words-span : goal.offset_bounds-words-span
offset_bounds-words-span c = let g = fits_words c.requires (ap are_words c.in-Words.is) in search rules

pub slice_bounds-read_words-end : goal.slice_bounds-read_words-end
slice_bounds-read_words-end c = let g = fits_words c.requires (ap are_words c.in-Words.is) in search rules

pub returns-in-Words : goal.returns-in-Words
returns-in-Words c =
    let e = ap are_words c.in-Words.is in
    let g = fits_words c.requires e in
    placed_words _ _ _ _ e (words_laid _ _ _ _ _ _ (c.width.ensures ∙ width_words _ e) g.0 g.1 c.read_words.ensures)
