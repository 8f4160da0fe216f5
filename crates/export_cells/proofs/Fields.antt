-- The fields by number: what the reader or the setter of a page gives for its field. Assumes nothing.
use mathlib.Core.Path.{◌≡◌, refl, sym, ap, ◌∙◌}
use mathlib.Core.List.{List, []}
use Prim.Native.Nat.{ℕ, zero, suc, ◌-◌, ◌<◌, ◌≤◌, ◌%◌}
use native.Mathlib.Omega.{arith}
use lib.ListN.{get_or, set, get_or-eq_default}
use lib.Seq.{set_out}
use Rattle.model.specs.State.{State, with_carry}
use Rattle.memory.specs.Layout.{CARRIED, area, byte_tail, byte_col, link_col, word_col, state_in, BytesBecome, WordsBecome}
use Rattle.memory.proofs.Pages.{carried_row}
use Rattle.memory.specs.Stored.{Stored, StoredLink, StoredWord}
use Rattle.memory.proofs.Stores.{put_parent, put_ignore, put_status, put_depth, put_children, put_consumer, put_supplier, put_flags, put_holds, put_error, put_linked}
use Rattle.export_cells.specs.Cells.{numbers_of, fields_of, cell_of, numbers_set, with_number, cells_set, with_cell}

-- field k of the links is field k + 5, and of the words k + 8
abbrev from5 : ℕ → ℕ
from5 k = suc (suc (suc (suc (suc k))))

abbrev from8 : ℕ → ℕ
from8 k = suc (suc (suc (from5 k)))

-- ---- reading
module _ (bytes words : List ℕ) where
  byte_field : (k : ℕ) → k < 5 → byte_col k bytes ≡ get_or (fields_of (state_in bytes words)) k []
  unfolding fields_of state_in
  byte_field zero l = refl
  byte_field (suc zero) l = refl
  byte_field (suc (suc zero)) l = refl
  byte_field (suc (suc (suc zero))) l = refl
  byte_field (suc (suc (suc (suc zero)))) l = refl
  byte_field (suc (suc (suc (suc (suc k))))) l = absurd (omega arith)

  link_field_lem : (k : ℕ) → k < 3 → link_col k bytes ≡ get_or (fields_of (state_in bytes words)) (from5 k) []
  unfolding fields_of state_in
  link_field_lem zero l = refl
  link_field_lem (suc zero) l = refl
  link_field_lem (suc (suc zero)) l = refl
  link_field_lem (suc (suc (suc k))) l = absurd (omega arith)

  word_field : (k : ℕ) → k < 3 → word_col k words ≡ get_or (fields_of (state_in bytes words)) (from8 k) []
  unfolding fields_of state_in
  word_field zero l = refl
  word_field (suc zero) l = refl
  word_field (suc (suc zero)) l = refl
  word_field (suc (suc (suc k))) l = absurd (omega arith)

  module _ {x : ℕ} (k row : ℕ) where
    pub byte_cell : k < 5 → x ≡ get_or (byte_col k bytes) row 0 → x ≡ cell_of (state_in bytes words) k row
    unfolding cell_of
    byte_cell l e = e ∙ ap (λ (col : List ℕ). get_or col row 0) (byte_field k l)

    pub link_cell : 5 ≤ k → k < 8 → x ≡ get_or (link_col (k - 5) bytes) row 0 → x ≡ cell_of (state_in bytes words) k row
    unfolding cell_of
    link_cell a l e =
        let z : from5 (k - 5) ≡ k = omega arith in
        e ∙ ap (λ (col : List ℕ). get_or col row 0) (rw z at (link_field_lem (k - 5) (omega arith)))

    pub word_cell : 8 ≤ k → k < 11 → x ≡ get_or (word_col (k - 8) words) row 0 → x ≡ cell_of (state_in bytes words) k row
    unfolding cell_of
    word_cell a l e =
        let z : from8 (k - 8) ≡ k = omega arith in
        e ∙ ap (λ (col : List ℕ). get_or col row 0) (rw z at (word_field (k - 8) (omega arith)))

    pub number_cell : 11 ≤ k → k < 12 → x ≡ get_or (numbers_of (state_in bytes words)) row 0 → x ≡ cell_of (state_in bytes words) k row
    unfolding cell_of fields_of
    number_cell a l e = let z : k ≡ 11 = omega arith in rw z e

pub no_cell : (s : State) (k row : ℕ) → 12 ≤ k → 0 ≡ cell_of s k row
unfolding cell_of fields_of
no_cell s k row l = ap (λ (col : List ℕ). get_or col row 0) (sym (get_or-eq_default (fields_of s) [] l))

-- the carried bytes stand behind six numbers
pub carried_number : (s : State) (i : ℕ) → 6 ≤ i → get_or s.carry.bytes (i - 6) 0 ≡ get_or (numbers_of s) i 0
unfolding numbers_of
carried_number s i l = let z : suc (from5 (i - 6)) ≡ i = omega arith in ap (λ (k : ℕ). get_or (numbers_of s) k 0) z

-- ---- setting
module _ {row : ℕ} (v : ℕ) {bytes₀ bytes : List ℕ} where
  pub byte_set : (k : ℕ) → k < 5 → Stored k row (v % 256) bytes₀ bytes → BytesBecome (with_cell k row v) bytes₀ bytes
  unfolding with_cell cells_set
  byte_set zero l h = put_parent h
  byte_set (suc zero) l h = put_ignore h
  byte_set (suc (suc zero)) l h = put_status h
  byte_set (suc (suc (suc zero))) l h = put_depth h
  byte_set (suc (suc (suc (suc zero)))) l h = put_children h
  byte_set (suc (suc (suc (suc (suc k))))) l h = absurd (omega arith)

  links_set : (k : ℕ) → k < 3 → StoredLink k row (v % 256) bytes₀ bytes → BytesBecome (with_cell (from5 k) row v) bytes₀ bytes
  unfolding with_cell cells_set
  links_set zero l h = put_consumer h
  links_set (suc zero) l h = put_supplier h
  links_set (suc (suc zero)) l h = put_flags h
  links_set (suc (suc (suc k))) l h = absurd (omega arith)

  pub link_set : (k : ℕ) → 5 ≤ k → k < 8 → StoredLink (k - 5) row (v % 256) bytes₀ bytes → BytesBecome (with_cell k row v) bytes₀ bytes
  link_set k a l h = let z : from5 (k - 5) ≡ k = omega arith in rw z at (links_set (k - 5) (omega arith) h)

module _ {row v : ℕ} {words₀ words : List ℕ} where
  words_set : (k : ℕ) → k < 3 → StoredWord k row v words₀ words → WordsBecome (with_cell (from8 k) row v) words₀ words
  unfolding with_cell cells_set
  words_set zero l h = put_holds h
  words_set (suc zero) l h = put_error h
  words_set (suc (suc zero)) l h = put_linked h
  words_set (suc (suc (suc k))) l h = absurd (omega arith)

  pub word_set : (k : ℕ) → 8 ≤ k → k < 11 → StoredWord (k - 8) row v words₀ words → WordsBecome (with_cell k row v) words₀ words
  word_set k a l h = let z : from8 (k - 8) ≡ k = omega arith in rw z at (words_set (k - 8) (omega arith) h)

module _ (s : State) (k row v : ℕ) where
  pub number_set : 11 ≤ k → k < 12 → with_number row v s ≡ with_cell k row v s
  unfolding with_cell cells_set
  number_set a l = let z : k ≡ 11 = omega arith in rw z

  pub nothing_set : 12 ≤ k → s ≡ with_cell k row v s
  unfolding with_cell cells_set
  nothing_set l = sym (get_or-eq_default (cells_set row v s) s l)

-- a carried byte that there is none of
pub carried_same : (bytes words : List ℕ) (i v : ℕ) → 3 ≤ i → state_in bytes words ≡ (let s = state_in bytes words in with_carry s (set s.carry.bytes i v) s.carry.used)
unfolding state_in
carried_same bytes words i v l = rw (set_out (area CARRIED 3 (byte_tail bytes)) i v (carried_row bytes i l))

pub carried_set : (i v : ℕ) (s : State) → 6 ≤ i → with_carry s (set s.carry.bytes (i - 6) (v % 256)) s.carry.used ≡ with_number i v s
unfolding with_number numbers_set
carried_set i v s l = sym (get_or-eq_default (numbers_set v s) _ l)
