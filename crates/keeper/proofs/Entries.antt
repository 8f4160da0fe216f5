-- Entries stored row by row into columns of zeros are the model's padded columns; and one entry more is three stores more.
-- Assumes nothing.
use mathlib.Core.Path.{◌≡◌, refl, sym, ◌∙◌, ap}
use mathlib.Core.List.{List}
use Prim.Native.Nat.{ℕ, zero, suc, ◌+◌, ◌≤◌}
use native.Mathlib.Omega.{arith}
use native.Mathlib.Numerals.{add-one}
use native.Mathlib.Decide.{ℕ_discrete, dec_lt}
use lib.ListN.{length, set, replicate, length-set}
use lib.Seq.{get_or-set_same, get_or-set_other, ext_get_or}
use borrow.Author.Tests.{lt-ltb, le-ltb}
use Rattle.model.specs.Logic.{when◌then◌else◌, column}
use Rattle.model.specs.Table.{device_byte, link_byte, cell, padded, devices_in, links_in, wiring_in}
use Rattle.model.specs.State.{at_rest, loaded, empty_state, with_ignore, with_depth}
use Rattle.model.proofs.Counting.{at_column, length_column, column_zero}
use Rattle.memory.specs.Layout.{BYTES, WORDS, state_in, BytesBecome, WholeBytesBecome, WholeWordsBecome}
use Rattle.memory.specs.Cells.{with_count, with_links, with_parent, with_consumer, with_supplier, with_flags}
use Rattle.keeper.specs.Entries.{stored, with_device_entries, with_link_entries}

-- no row is filled yet
padded_none : (f : ℕ → ℕ) (rows : ℕ) → padded f 0 rows ≡ replicate rows 0
unfolding padded cell when◌then◌else◌
padded_none f rows = column_zero (cell f 0) rows (λ k. rw (le-ltb k 0 (omega arith)))

-- row j after row k is filled
cell_other : (f : ℕ → ℕ) (k j : ℕ) → (j ≡ k → ⊥) → cell f k j ≡ cell f (suc k) j
unfolding cell when◌then◌else◌
cell_other f k j ne =
    elim (dec_lt j k) [ yes y ↦ rw (lt-ltb j k y, lt-ltb j (suc k) (omega arith)) | no g ↦ rw (le-ltb j k (omega arith), le-ltb j (suc k) (omega arith)) ]

cell_same : (f : ℕ → ℕ) (k : ℕ) → f k ≡ cell f (suc k) k
unfolding cell when◌then◌else◌
cell_same f k = rw (lt-ltb k (suc k) (omega arith))

-- one row more; past the last row nothing changes
padded_one : (f : ℕ → ℕ) (k rows : ℕ) → set (padded f k rows) k (f k) ≡ padded f (suc k) rows
unfolding padded
padded_one f k rows =
    let e = length_column (cell f k) rows in
    let z = length_column (cell f (suc k)) rows in
    let s = length-set (column (cell f k) rows) k (f k) in
    ext_get_or 0 (set (column (cell f k) rows) k (f k)) (column (cell f (suc k)) rows) (omega arith)
    (λ j l.
    let g = at_column (cell f (suc k)) rows j (omega arith) in
    elim (ℕ_discrete j k) [
      | yes y ↦ rw (g, y) (get_or-set_same (column (cell f k) rows) k (f k) 0 (omega arith) ∙ cell_same f k)
      | no n ↦ get_or-set_other (column (cell f k) rows) k j (f k) 0 n ∙ at_column (cell f k) rows j (omega arith) ∙ cell_other f k j n ∙ sym g
    ])

pub stored_zeros : (f : ℕ → ℕ) (k rows : ℕ) → stored f k (replicate rows 0) ≡ padded f k rows
unfolding stored
stored_zeros f zero rows = sym (padded_none f rows)
stored_zeros f (suc k) rows = rw (stored_zeros f k rows) (padded_one f k rows)

-- the empty bench, with the counts and all entries of a table
pub entered : (t : List ℕ) → with_link_entries t (links_in t) (with_device_entries t (devices_in t) (with_links (with_count empty_state (devices_in t)) (links_in t))) ≡ loaded (wiring_in t)
unfolding loaded at_rest empty_state wiring_in
entered t = simp stored_zeros

-- ---- the loops: the memory after k entries
pub record Devices (t : List ℕ) (k : ℕ) (bytes₀ bytes : List ℕ) : Type 0 where
  pub are : BytesBecome (with_device_entries t k) bytes₀ bytes

pub record Links (t : List ℕ) (k : ℕ) (bytes₀ bytes : List ℕ) : Type 0 where
  pub are : BytesBecome (with_link_entries t k) bytes₀ bytes

pub no_devices : (t bytes : List ℕ) → Devices t 0 bytes bytes
unfolding stored
no_devices t bytes = record { are = λ words. refl }

pub no_links : (t bytes : List ℕ) → Links t 0 bytes bytes
unfolding stored
no_links t bytes = record { are = λ words. refl }

module _ (t : List ℕ) (k : ℕ) (b₀ b b₁ b₂ b₃ : List ℕ) (x y z : ℕ) where
  pub one_device :
      Devices t k b₀ b → x ≡ device_byte t 0 k → BytesBecome (λ s. with_parent s k x) b b₁ → y ≡ device_byte t 1 k → BytesBecome (λ s. with_ignore s k y) b₁ b₂
      → z ≡ 1 → BytesBecome (λ s. with_depth s k z) b₂ b₃ → Devices t (k + 1) b₀ b₃
  unfolding stored
  one_device h p f q g r d = record { are = λ words. rw (add-one, d words, g words, f words, h.are words, p, q, r) }

  pub one_link :
      Links t k b₀ b → x ≡ link_byte t 0 k → BytesBecome (λ s. with_consumer s k x) b b₁ → y ≡ link_byte t 1 k → BytesBecome (λ s. with_supplier s k y) b₁ b₂
      → z ≡ link_byte t 2 k → BytesBecome (λ s. with_flags s k z) b₂ b₃ → Links t (k + 1) b₀ b₃
  unfolding stored
  one_link h p f q g r e = record { are = λ words. rw (add-one, e words, g words, f words, h.are words, p, q, r) }

-- ---- the counts and the entries stored into the memory of the empty bench
module _ (t bytes₀ words₀ b₁ words b₂ b₃ : List ℕ) (n m : ℕ) where
  pub at_rest_lem :
      state_in bytes₀ words₀ ≡ empty_state → BYTES ≤ length bytes₀ → WORDS ≤ length words₀
      → n ≡ devices_in t → WholeBytesBecome (λ s. with_count s n) bytes₀ b₁ → m ≡ links_in t → WholeWordsBecome (λ s. with_links s m) words₀ words
      → BytesBecome (with_device_entries t (devices_in t)) b₁ b₂ → BytesBecome (with_link_entries t (links_in t)) b₂ b₃
      → state_in b₃ words ≡ loaded (wiring_in t)
  at_rest_lem e x y p f q g d l =
      l words ∙ ap (with_link_entries t (links_in t)) (d words ∙ ap (with_device_entries t (devices_in t)) (rw (f words x, g bytes₀ y, e, p, q))) ∙ entered t
