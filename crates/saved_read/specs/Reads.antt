-- A form read into two arrays, span by span. Assumes nothing.
use Rattle.std.specs.Prelude.{◌≡◌, List, [], ◌∷◌, ℕ, ◌+◌, ◌≤◌, Result, Ok, Err, IfOk, length, replicate}
use Rattle.model.specs.Logic.{when◌then◌else◌}
use Rattle.memory.specs.Layout.{BYTES, WORDS}
use Rattle.saved_answer.specs.declared.RestoreRefusal.{RestoreRefusal}
use Rattle.saved_answer.specs.Answers.{restore_refusal}
use Rattle.saved_form.specs.declared.Span.{Span}
use Rattle.saved_form.specs.Restoring.{version1, spans, in_words, width, cells_in, laid, bytes_by, words_by, version_in, head_answer}
use Rattle.saved_read.specs.declared.Cells.{Cells}

-- the form has the span, and its array has room for it
pub record Fits (f : List ℕ) (p : Span) (bytes words : List ℕ) : Type 0 where
  pub within : p.at + width p ≤ length f
  pub room : p.to + p.cells ≤ (when in_words p then length words else length bytes)

unfoldable pub AllFit : List ℕ → List Span → List ℕ → List ℕ → Type 0
AllFit f [] bytes words = Unit {0}
AllFit f (p ∷ ps) bytes words = Fits f p bytes words × AllFit f ps bytes words

-- one span laid, all of them laid
pub record Placed (f : List ℕ) (p : Span) (bytes₀ words₀ bytes words : List ℕ) : Type 0 where
  pub in_bytes : bytes ≡ (when in_words p then bytes₀ else laid bytes₀ p.to (cells_in f p))
  pub in_words : words ≡ (when in_words p then laid words₀ p.to (cells_in f p) else words₀)

pub record Filled (f : List ℕ) (ps : List Span) (bytes₀ words₀ bytes words : List ℕ) : Type 0 where
  pub in_bytes : bytes ≡ bytes_by f ps bytes₀
  pub in_words : words ≡ words_by f ps words₀

-- the cells that a form of version 1 has
pub record CellsOf (f : List ℕ) (c : Cells) : Type 0 where
  pub in_bytes : c.bytes ≡ bytes_by f version1 (replicate BYTES 0)
  pub in_words : c.words ≡ words_by f version1 (replicate WORDS 0)

-- the cells by the spans of the version
pub record CellsBy (f : List ℕ) (c : Cells) : Type 0 where
  pub in_bytes : c.bytes ≡ bytes_by f (spans (version_in f)) (replicate BYTES 0)
  pub in_words : c.words ≡ words_by f (spans (version_in f)) (replicate WORDS 0)

-- the refusal's number, or 0
abbrev pub number_of : Result Cells RestoreRefusal → ℕ
number_of (Ok _) = 0
number_of (Err r) = restore_refusal r

-- the answer to header and length, and the arrays where the bytes are not refused
pub record ReadIs (f : List ℕ) (r : Result Cells RestoreRefusal) : Type 0 where
  pub number : number_of r ≡ head_answer f
  pub cells : IfOk r (CellsBy f)
