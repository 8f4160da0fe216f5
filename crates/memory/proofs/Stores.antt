-- A store into memory as a change of the columns, and a change of a column or a number as a change of the state. Assumes nothing.
use mathlib.Core.Path.{◌≡◌, refl, sym, ◌∙◌}
use mathlib.Core.List.{List}
use mathlib.Core.Logic.{◌⊎◌, inl, inr}
use Prim.Native.Nat.{ℕ, ◌+◌, ◌*◌, ◌<◌, ◌≤◌}
use native.Mathlib.Omega.{arith}
use native.Mathlib.Decide.{dec_lt}
use lib.ListN.{length, get_or, set, length-set}
use lib.Seq.{set_out}
use lib.Dec.{eqb}
use borrow.Author.Tests.{eqb-true}
use Rattle.model.specs.Limits.{ROWS, LINKS}
use Rattle.model.specs.Logic.{when◌then◌else◌}
use Rattle.model.specs.State.{with_depth, with_holds, with_error, with_ignore, with_callback, with_carry}
use Rattle.model.proofs.Basics.{by_if}
use Rattle.memory.specs.Layout.{PARENT, IGNORE, STATUS, DEPTH, CHILDREN, BYTEPAGES, CONSUMER, SUPPLIER, FLAGS, LINKPAGES, HOLDS, ERROR, LINKED, WORDPAGES}
use Rattle.memory.specs.Layout.{KIND, ASKED, TARGET, USED, CARRIED, COUNT, LINKCOUNT, LINKSAT, BYTETAIL, BYTENUMBERS, WORDTAIL, WORDNUMBERS, BYTES, WORDS}
use Rattle.memory.specs.Layout.{area, byte_col, link_col, word_col, byte_tail, word_tail, state_in, BytesBecome, WordsBecome}
use Rattle.memory.specs.Stored.{stored, Stored, StoredLink, StoredWord}
use Rattle.memory.specs.Cells.{with_status_cell, with_children, with_linked, with_count, with_links, with_parent, with_consumer, with_supplier, with_flags}
use Rattle.memory.proofs.Pages.{device_store, device_rest, link_store, link_devices, link_tail, tail_cols, tail_links, number_store}
use Rattle.memory.proofs.Pages.{carried_stays, carried_store, carried_long, three_cells, three_set, word_number_store, word_tail_cols}

-- ---- the store of a cell
module _ (page p v : ℕ) (cells : List ℕ) where
  pub byte_stored : page < BYTEPAGES → p < ROWS → Stored page p v cells (set cells (ROWS * page + p) v)
  unfolding link_col byte_tail
  byte_stored few l =
      record {
        columns = device_store BYTEPAGES page cells p v l few;
        links = λ k. rw (device_rest BYTEPAGES page cells p v l few LINKSAT (LINKS * LINKPAGES) (omega arith));
        numbers = device_rest BYTEPAGES page cells p v l few BYTETAIL BYTENUMBERS (omega arith);
      }

  pub link_stored : page < LINKPAGES → p < LINKS → StoredLink page p v cells (set cells (LINKSAT + (LINKS * page + p)) v)
  link_stored few l =
      record { columns = link_devices page cells p v l few; links = link_store page cells p v l few; numbers = link_tail page cells p v l few }

  pub word_stored : page < WORDPAGES → p < ROWS → StoredWord page p v cells (set cells (ROWS * page + p) v)
  unfolding word_tail
  word_stored few l =
      record { columns = device_store WORDPAGES page cells p v l few; numbers = device_rest WORDPAGES page cells p v l few WORDTAIL WORDNUMBERS (omega arith) }

  -- a column that has no such row stays
  stays : (col : ℕ → List ℕ) → length (col page) ≤ p → (k : ℕ) → col k ≡ stored page p v k (col k)
  stays col out k = by_if (λ x. col k ≡ x) (eqb k page) _ _ (λ y. rw (eqb-true k page y) (sym (set_out (col page) p v out))) (λ n. refl)

  pub byte_same : length (byte_col page cells) ≤ p → Stored page p v cells cells
  byte_same out = record { columns = stays (λ k. byte_col k cells) out; links = λ k. refl; numbers = refl }

  pub link_same : length (link_col page cells) ≤ p → StoredLink page p v cells cells
  link_same out = record { columns = λ k. refl; links = stays (λ k. link_col k cells) out; numbers = refl }

  pub word_same : length (word_col page cells) ≤ p → StoredWord page p v cells cells
  word_same out = record { columns = stays (λ k. word_col k cells) out; numbers = refl }

-- what a setter leaves of the cells: row p of page k is set, of so many pages of so many rows, or all stays
pub store_made : (Made : List ℕ → Type 0) {k pages p rows : ℕ} {cells after set_one : List ℕ}
    → (k < pages → p < rows → after ≡ set_one) → ((pages ≤ k) ⊎ (rows ≤ p) → after ≡ cells)
    → (k < pages → p < rows → Made set_one) → ((pages ≤ k) ⊎ (rows ≤ p) → Made cells) → Made after
store_made Made {k} {pages} {p} {rows} inside outside set_there same =
    elim (dec_lt k pages) [
      | yes few ↦ elim (dec_lt p rows) [
        | yes l ↦ rw (inside few l) (set_there few l)
        | no n ↦ let z : rows ≤ p = omega arith in rw (outside (inr z)) (same (inr z))
      ]
      | no n ↦ let z : pages ≤ k = omega arith in rw (outside (inl z)) (same (inl z))
    ]

-- ---- a column changed is a state changed
module _ {p v : ℕ} {bytes₀ bytes : List ℕ} where
  pub put_parent : Stored PARENT p v bytes₀ bytes → BytesBecome (λ s. with_parent s p v) bytes₀ bytes
  unfolding state_in when◌then◌else◌
  put_parent h words = simp (h.columns, h.links, h.numbers)

  pub put_ignore : Stored IGNORE p v bytes₀ bytes → BytesBecome (λ s. with_ignore s p v) bytes₀ bytes
  unfolding state_in when◌then◌else◌
  put_ignore h words = simp (h.columns, h.links, h.numbers)

  pub put_status : Stored STATUS p v bytes₀ bytes → BytesBecome (λ s. with_status_cell s p v) bytes₀ bytes
  unfolding state_in when◌then◌else◌
  put_status h words = simp (h.columns, h.links, h.numbers)

  pub put_depth : Stored DEPTH p v bytes₀ bytes → BytesBecome (λ s. with_depth s p v) bytes₀ bytes
  unfolding state_in when◌then◌else◌
  put_depth h words = simp (h.columns, h.links, h.numbers)

  pub put_children : Stored CHILDREN p v bytes₀ bytes → BytesBecome (λ s. with_children s p v) bytes₀ bytes
  unfolding state_in when◌then◌else◌
  put_children h words = simp (h.columns, h.links, h.numbers)

  pub put_consumer : StoredLink CONSUMER p v bytes₀ bytes → BytesBecome (λ s. with_consumer s p v) bytes₀ bytes
  unfolding state_in when◌then◌else◌
  put_consumer h words = simp (h.columns, h.links, h.numbers)

  pub put_supplier : StoredLink SUPPLIER p v bytes₀ bytes → BytesBecome (λ s. with_supplier s p v) bytes₀ bytes
  unfolding state_in when◌then◌else◌
  put_supplier h words = simp (h.columns, h.links, h.numbers)

  pub put_flags : StoredLink FLAGS p v bytes₀ bytes → BytesBecome (λ s. with_flags s p v) bytes₀ bytes
  unfolding state_in when◌then◌else◌
  put_flags h words = simp (h.columns, h.links, h.numbers)

module _ {p v : ℕ} {words₀ words : List ℕ} where
  pub put_holds : StoredWord HOLDS p v words₀ words → WordsBecome (λ s. with_holds s p v) words₀ words
  unfolding state_in when◌then◌else◌
  put_holds h bytes = simp (h.columns, h.numbers)

  pub put_error : StoredWord ERROR p v words₀ words → WordsBecome (λ s. with_error s p v) words₀ words
  unfolding state_in when◌then◌else◌
  put_error h bytes = simp (h.columns, h.numbers)

  pub put_linked : StoredWord LINKED p v words₀ words → WordsBecome (λ s. with_linked s p v) words₀ words
  unfolding state_in when◌then◌else◌
  put_linked h bytes = simp (h.columns, h.numbers)

-- ---- a number stored is a state changed, where the array has its cells
pub put_links : (bytes words : List ℕ) (m : ℕ) → WORDS ≤ length words → state_in bytes (set words (WORDTAIL + LINKCOUNT) m) ≡ with_links (state_in bytes words) m
unfolding state_in
put_links bytes words m long = simp (word_number_store words m long, word_tail_cols words m)

pub put_count : (bytes words : List ℕ) (n : ℕ) → BYTES ≤ length bytes → state_in (set bytes (BYTETAIL + COUNT) n) words ≡ with_count (state_in bytes words) n
unfolding state_in when◌then◌else◌
put_count bytes words n long =
    simp (number_store bytes COUNT n (omega arith) long, carried_stays bytes COUNT n (omega arith), tail_cols bytes COUNT n, tail_links bytes COUNT n)

-- one cell more keeps the length
still : (bytes : List ℕ) (i v : ℕ) → BYTES ≤ length bytes → BYTES ≤ length (set bytes i v)
still bytes i v long = rw (length-set bytes i v) long

module _ (bytes words : List ℕ) (kind asked target : ℕ) (long : BYTES ≤ length bytes) where
  abbrev with_kind : List ℕ
  with_kind = set bytes (BYTETAIL + KIND) kind

  abbrev with_asked : List ℕ
  with_asked = set with_kind (BYTETAIL + ASKED) asked

  pub put_callback : state_in (set with_asked (BYTETAIL + TARGET) target) words ≡ with_callback (state_in bytes words) kind asked target
  unfolding state_in when◌then◌else◌
  put_callback =
      let l1 = still bytes (BYTETAIL + KIND) kind long in
      let l2 = still with_kind (BYTETAIL + ASKED) asked l1 in
      simp (
        number_store with_asked TARGET target (omega arith) l2,
        number_store with_kind ASKED asked (omega arith) l1,
        number_store bytes KIND kind (omega arith) long,
        carried_stays with_asked TARGET target (omega arith),
        carried_stays with_kind ASKED asked (omega arith),
        carried_stays bytes KIND kind (omega arith),
        tail_cols,
        tail_links,
      )

module _ (bytes words carried : List ℕ) (used : ℕ) (long : BYTES ≤ length bytes) (three : length carried ≡ 3) where
  abbrev with_used : List ℕ
  with_used = set bytes (BYTETAIL + USED) used

  abbrev with_first : List ℕ
  with_first = set with_used (BYTETAIL + (CARRIED + 0)) (get_or carried 0 0)

  abbrev with_second : List ℕ
  with_second = set with_first (BYTETAIL + (CARRIED + 1)) (get_or carried 1 0)

  abbrev with_third : List ℕ
  with_third = set with_second (BYTETAIL + (CARRIED + 2)) (get_or carried 2 0)

  -- the three cells are the bytes given
  three_stored : area CARRIED 3 (byte_tail with_third) ≡ carried
  three_stored =
      rw (
        carried_store with_second 2 (get_or carried 2 0) (omega arith),
        carried_store with_first 1 (get_or carried 1 0) (omega arith),
        carried_store with_used 0 (get_or carried 0 0) (omega arith),
      )
      (three_set (area CARRIED 3 (byte_tail with_used)) (get_or carried 0 0) (get_or carried 1 0) (get_or carried 2 0)
      (carried_long with_used (still bytes (BYTETAIL + USED) used long))
      ∙ sym (three_cells carried three))

  pub put_carried : state_in with_third words ≡ with_carry (state_in bytes words) carried used
  unfolding state_in when◌then◌else◌
  put_carried =
      let l1 = still bytes (BYTETAIL + USED) used long in
      let l2 = still with_used (BYTETAIL + (CARRIED + 0)) (get_or carried 0 0) l1 in
      let l3 = still with_first (BYTETAIL + (CARRIED + 1)) (get_or carried 1 0) l2 in
      simp (
        three_stored,
        number_store with_second (CARRIED + 2) (get_or carried 2 0) (omega arith) l3,
        number_store with_first (CARRIED + 1) (get_or carried 1 0) (omega arith) l2,
        number_store with_used (CARRIED + 0) (get_or carried 0 0) (omega arith) l1,
        number_store bytes USED used (omega arith) long,
        tail_cols,
        tail_links,
      )
