-- A store into one cell: its page is set there, and every other page, area and number stays. Assumes nothing.
use mathlib.Core.Path.{◌≡◌, refl, sym, ◌∙◌, ap}
use mathlib.Core.List.{List, [], ◌∷◌}
use mathlib.Core.Logic.{◌⊎◌, inl, inr}
use Rattle.std.specs.Prelude.{slice_range}
use Prim.Native.Nat.{ℕ, suc, ◌+◌, ◌*◌, ◌-◌, ◌<◌, ◌≤◌}
use native.Mathlib.Omega.{arith}
use native.Mathlib.Nat.{mul-suc, mul-le-mul_left}
use native.Mathlib.Decide.{dec_lt}
use lib.ListN.{length, get_or, set, take, drop, length-take, length-drop, get_or-eq_default}
use lib.Seq.{take-set-le, take-set-lt, drop-set-lt, drop-set-add, take-add, take-take, take_all, drop_at, drop-drop, get_or-take, get_or-drop, get_or-set_same, get_or-set_other}
use lib.Dec.{eqb}
use borrow.Author.Tests.{eqb-true, eqb-false}
use Rattle.model.specs.Limits.{ROWS, LINKS}
use Rattle.model.specs.Logic.{when◌then◌else◌}
use Rattle.model.proofs.Basics.{by_if}
use Rattle.memory.specs.Layout.{BYTES, WORDS, CARRIED, LINKCOUNT, LINKSAT, LINKPAGES, WORDTAIL, BYTETAIL, BYTENUMBERS, WORDNUMBERS}
use Rattle.memory.specs.Layout.{area, page, device_col, byte_col, word_col, link_col, byte_tail, word_tail}

-- ---- areas
module _ (from size : ℕ) (cells : List ℕ) where
  pub area_read : (i : ℕ) → i < size → get_or (area from size cells) i 0 ≡ get_or cells (from + i) 0
  unfolding area
  area_read i l = rw (get_or-take size (drop from cells) i 0 l, get_or-drop)

  pub area_same : (i v : ℕ) → i < size → area from size (set cells (from + i) v) ≡ set (area from size cells) i v
  unfolding area
  area_same i v l = rw (drop-set-add from cells i v) (take-set-lt size (drop from cells) i v l)

  pub area_after : (i v : ℕ) → i < from → area from size (set cells i v) ≡ area from size cells
  unfolding area
  area_after i v l = ap (take size) (drop-set-lt from cells i v l)

  pub area_before : (i v : ℕ) → from + size ≤ i → area from size (set cells i v) ≡ area from size cells
  unfolding area
  area_before i v l =
      let d = i - from in
      let f : i ≡ from + d = omega arith in
      rw (f, drop-set-add from cells d v) (take-set-le size (drop from cells) d v (omega arith))

  pub area_length : from + size ≤ length cells → length (area from size cells) ≡ size
  unfolding area
  area_length h = rw (length-take, length-drop) (omega arith)

-- an area of the first cells, and of an area
pub take_area : (n from size : ℕ) (cells : List ℕ) → from + size ≤ n → area from size (take n cells) ≡ area from size cells
unfolding area
take_area n from size cells h =
    elim (dec_lt (length cells) n) [
      | yes y ↦ rw (take_all n cells (omega arith))
      | no g ↦
          let d = n - from in
          let e : n ≡ from + d = omega arith in
          let f : length (take from cells) ≡ from = rw length-take (omega arith) in
          rw (e, take-add from d cells, drop_at (take from cells) (take d (drop from cells)) from f) (take-take size d (drop from cells) (omega arith))
    ]

pub area_area : (at n from size : ℕ) (cells : List ℕ) → from + size ≤ n → area from size (area at n cells) ≡ area (at + from) size cells
unfolding area
area_area at n from size cells h = take_area n from size (drop at cells) h ∙ ap (take size) (drop-drop from at cells)

-- ---- pages
pub page_read : (size k : ℕ) (cells : List ℕ) (p : ℕ) → p < size → get_or (page size k cells) p 0 ≡ get_or cells (size * k + p) 0
unfolding page
page_read size k cells p l = area_read (size * k) size cells p l

module _ (size k : ℕ) (cells : List ℕ) (p v : ℕ) (l : p < size) where
  page_other : (j : ℕ) → (j ≡ k → ⊥) → page size j (set cells (size * k + p) v) ≡ page size j cells
  unfolding page
  page_other j ne =
      elim (dec_lt k j) [
        | yes y ↦
            let h : size * suc k ≤ size * j = mul-le-mul_left size (omega arith) in
            let e = mul-suc size k in
            area_after (size * j) size cells (size * k + p) v (omega arith)
        | no n ↦
            let h : size * suc j ≤ size * k = mul-le-mul_left size (omega arith) in
            let e = mul-suc size j in
            area_before (size * j) size cells (size * k + p) v (omega arith)
      ]

  pub page_store : (j : ℕ) → page size j (set cells (size * k + p) v) ≡ (when eqb j k then set (page size j cells) p v else page size j cells)
  unfolding page
  page_store j =
      by_if (λ x. page size j (set cells (size * k + p) v) ≡ x) (eqb j k) _ _ (λ y. rw (eqb-true j k y) (area_same (size * k) size cells p v l)) (λ n. page_other j (eqb-false j k n))

-- ---- the columns: row p of page k lies inside its area
pub inside : (size k p pages : ℕ) → p < size → k < pages → size * k + p < size * pages
inside size k p pages l f =
    let h : size * suc k ≤ size * pages = mul-le-mul_left size (omega arith) in
    let e = mul-suc size k in
    omega arith

module _ (pages k : ℕ) (cells : List ℕ) (p v : ℕ) (l : p < ROWS) (few : k < pages) where
  pub device_store : (j : ℕ) → device_col pages j (set cells (ROWS * k + p) v) ≡ (when eqb j k then set (device_col pages j cells) p v else device_col pages j cells)
  unfolding device_col
  device_store j = rw (take-set-lt (ROWS * pages) cells (ROWS * k + p) v (inside ROWS k p pages l few)) (page_store ROWS k (take (ROWS * pages) cells) p v l j)

  -- what stands after the device pages stays
  pub device_rest : (from size : ℕ) → ROWS * pages ≤ from → area from size (set cells (ROWS * k + p) v) ≡ area from size cells
  device_rest from size h = let z = inside ROWS k p pages l few in area_after from size cells (ROWS * k + p) v (omega arith)

-- a store into a page of the links
module _ (k : ℕ) (cells : List ℕ) (i v : ℕ) (l : i < LINKS) (few : k < LINKPAGES) where
  abbrev cell : ℕ
  cell = LINKSAT + (LINKS * k + i)

  pub link_store : (j : ℕ) → link_col j (set cells cell v) ≡ (when eqb j k then set (link_col j cells) i v else link_col j cells)
  unfolding link_col
  link_store j =
      rw (area_same LINKSAT (LINKS * LINKPAGES) cells (LINKS * k + i) v (inside LINKS k i LINKPAGES l few)) (page_store LINKS k (area LINKSAT (LINKS * LINKPAGES) cells) i v l j)

  -- what stands before the link pages, and what stands after, stays
  pub link_devices : (j : ℕ) → byte_col j (set cells cell v) ≡ byte_col j cells
  unfolding device_col
  link_devices j = ap (page ROWS j) (take-set-le LINKSAT cells cell v (omega arith))

  pub link_tail : byte_tail (set cells cell v) ≡ byte_tail cells
  unfolding byte_tail
  link_tail = let z = inside LINKS k i LINKPAGES l few in area_after BYTETAIL BYTENUMBERS cells cell v (omega arith)

-- ---- no row outside: a column has as many rows as its page at most, and none where there is no such page
area_short : (from size : ℕ) (cells : List ℕ) → length (area from size cells) ≤ size
unfolding area
area_short from size cells = rw length-take (omega arith)

page_none : (size k pages : ℕ) (cells : List ℕ) → pages ≤ k → length cells ≤ size * pages → length (page size k cells) ≤ 0
unfolding page area
page_none size k pages cells few l = let h : size * pages ≤ size * k = mul-le-mul_left size few in rw (length-take, length-drop) (omega arith)

pub no_row : (col : List ℕ) (p : ℕ) → length col ≤ p → 0 ≡ get_or col p 0
no_row col p l = sym (get_or-eq_default col 0 {n = p} l)

module _ (cells : List ℕ) (p : ℕ) where
  pub device_row : (pages k : ℕ) → ROWS ≤ p → length (device_col pages k cells) ≤ p
  unfolding device_col page
  device_row pages k l = let h = area_short (ROWS * k) ROWS (take (ROWS * pages) cells) in omega arith

  pub device_page : (pages k : ℕ) → pages ≤ k → length (device_col pages k cells) ≤ p
  unfolding device_col
  device_page pages k l = let z = length-take (ROWS * pages) cells in let h = page_none ROWS k pages (take (ROWS * pages) cells) l (omega arith) in omega arith

  pub link_row : (k : ℕ) → LINKS ≤ p → length (link_col k cells) ≤ p
  unfolding link_col page
  link_row k l = let h = area_short (LINKS * k) LINKS (area LINKSAT (LINKS * LINKPAGES) cells) in omega arith

  pub link_page : (k : ℕ) → LINKPAGES ≤ k → length (link_col k cells) ≤ p
  unfolding link_col
  link_page k l =
      let h = page_none LINKS k LINKPAGES (area LINKSAT (LINKS * LINKPAGES) cells) l (area_short LINKSAT (LINKS * LINKPAGES) cells) in
      omega arith

  -- there is no such page, or no such row
  pub device_out : (pages k : ℕ) → (pages ≤ k) ⊎ (ROWS ≤ p) → length (device_col pages k cells) ≤ p
  device_out pages k (inl l) = device_page pages k l
  device_out pages k (inr l) = device_row pages k l

  pub link_out : (k : ℕ) → (LINKPAGES ≤ k) ⊎ (LINKS ≤ p) → length (link_col k cells) ≤ p
  link_out k (inl l) = link_page k l
  link_out k (inr l) = link_row k l

-- ---- the numbers
module _ (cells : List ℕ) (i v : ℕ) where
  pub tail_store : i < BYTENUMBERS → byte_tail (set cells (BYTETAIL + i) v) ≡ set (byte_tail cells) i v
  unfolding byte_tail
  tail_store l = area_same BYTETAIL BYTENUMBERS cells i v l

  pub tail_cols : (j : ℕ) → byte_col j (set cells (BYTETAIL + i) v) ≡ byte_col j cells
  unfolding device_col
  tail_cols j = ap (page ROWS j) (take-set-le LINKSAT cells (BYTETAIL + i) v (omega arith))

  pub tail_links : (j : ℕ) → link_col j (set cells (BYTETAIL + i) v) ≡ link_col j cells
  unfolding link_col
  tail_links j = ap (page LINKS j) (area_before LINKSAT (LINKS * LINKPAGES) cells (BYTETAIL + i) v (omega arith))

  pub tail_length : BYTES ≤ length cells → length (byte_tail cells) ≡ BYTENUMBERS
  unfolding byte_tail BYTES
  tail_length h = area_length BYTETAIL BYTENUMBERS cells (omega arith)

  pub number_store : i < BYTENUMBERS → BYTES ≤ length cells → (j : ℕ) → get_or (byte_tail (set cells (BYTETAIL + i) v)) j 0 ≡ (when eqb j i then v else get_or (byte_tail cells) j 0)
  number_store l long j =
      let z = tail_length long in
      rw (tail_store l)
      (by_if (λ x. get_or (set (byte_tail cells) i v) j 0 ≡ x) (eqb j i) _ _
      (λ y. rw (eqb-true j i y) (get_or-set_same (byte_tail cells) i v 0 (omega arith)))
      (λ n. get_or-set_other (byte_tail cells) i j v 0 (eqb-false j i n)))

  pub carried_store : i < 3 → area CARRIED 3 (byte_tail (set cells (BYTETAIL + (CARRIED + i)) v)) ≡ set (area CARRIED 3 (byte_tail cells)) i v
  unfolding byte_tail
  carried_store l = rw (area_same BYTETAIL BYTENUMBERS cells (CARRIED + i) v (omega arith)) (area_same CARRIED 3 (byte_tail cells) i v l)

  pub carried_stays : i < CARRIED → area CARRIED 3 (byte_tail (set cells (BYTETAIL + i) v)) ≡ area CARRIED 3 (byte_tail cells)
  carried_stays l = rw (tail_store (omega arith)) (area_after CARRIED 3 (byte_tail cells) i v l)

-- the link count
module _ (cells : List ℕ) (v : ℕ) where
  pub word_number_store : WORDS ≤ length cells → get_or (word_tail (set cells (WORDTAIL + LINKCOUNT) v)) LINKCOUNT 0 ≡ v
  unfolding word_tail WORDS
  word_number_store long =
      let z = area_length WORDTAIL WORDNUMBERS cells (omega arith) in
      rw (area_same WORDTAIL WORDNUMBERS cells LINKCOUNT v (omega arith)) (get_or-set_same (area WORDTAIL WORDNUMBERS cells) LINKCOUNT v 0 (omega arith))

  pub word_tail_cols : (j : ℕ) → word_col j (set cells (WORDTAIL + LINKCOUNT) v) ≡ word_col j cells
  unfolding device_col
  word_tail_cols j = ap (page ROWS j) (take-set-le WORDTAIL cells (WORDTAIL + LINKCOUNT) v (omega arith))

-- ---- reading
pub device_read : (pages k : ℕ) (cells : List ℕ) (p : ℕ) → p < ROWS → k < pages → get_or (device_col pages k cells) p 0 ≡ get_or cells (ROWS * k + p) 0
unfolding device_col
device_read pages k cells p l few = page_read ROWS k (take (ROWS * pages) cells) p l ∙ get_or-take (ROWS * pages) cells (ROWS * k + p) 0 (inside ROWS k p pages l few)

pub link_read : (k : ℕ) (cells : List ℕ) (i : ℕ) {at : ℕ} → i < LINKS → k < LINKPAGES → LINKSAT + (LINKS * k + i) ≡ at → get_or (link_col k cells) i 0 ≡ get_or cells at 0
unfolding link_col
link_read k cells i l few e =
    page_read LINKS k (area LINKSAT (LINKS * LINKPAGES) cells) i l
    ∙ area_read LINKSAT (LINKS * LINKPAGES) cells (LINKS * k + i) (inside LINKS k i LINKPAGES l few)
    ∙ ap (λ (n : ℕ). get_or cells n 0) e

-- what a reader gives for row p of page k, of so many pages of so many rows: the cell there, or 0
pub column_get : {k pages p rows r x : ℕ} (col : List ℕ)
    → (k < pages → p < rows → r ≡ x) → ((pages ≤ k) ⊎ (rows ≤ p) → r ≡ 0)
    → (k < pages → p < rows → get_or col p 0 ≡ x) → ((pages ≤ k) ⊎ (rows ≤ p) → length col ≤ p) → r ≡ get_or col p 0
column_get {k} {pages} {p} {rows} col inside outside read none =
    elim (dec_lt k pages) [
      | yes few ↦ elim (dec_lt p rows) [
        | yes l ↦ inside few l ∙ sym (read few l)
        | no n ↦ let z : rows ≤ p = omega arith in outside (inr z) ∙ no_row col p (none (inr z))
      ]
      | no n ↦ let z : pages ≤ k = omega arith in outside (inl z) ∙ no_row col p (none (inl z))
    ]

-- a page as a slice of the cells; where there is no such page it is empty
slice_area : (from size : ℕ) (cells : List ℕ) → slice_range cells from (from + size) ≡ area from size cells
unfolding area
slice_area from size cells = let e : from + size - from ≡ size = omega arith in rw e

both_none : (l m : List ℕ) → length l ≡ 0 → length m ≤ 0 → l ≡ m
both_none [] [] e f = refl
both_none [] (x ∷ m) e f = absurd (omega arith)
both_none (x ∷ l) m e f = absurd (omega arith)

pub device_slice : (pages k : ℕ) (cells : List ℕ) {r : List ℕ}
    → (k < pages → r ≡ slice_range cells (0 + ROWS * k) (0 + ROWS * k + ROWS)) → (pages ≤ k → length r ≡ 0) → r ≡ device_col pages k cells
unfolding device_col page
device_slice pages k cells {r} inside outside =
    elim (dec_lt k pages) [
      | yes few ↦
          let z : ROWS * suc k ≤ ROWS * pages = mul-le-mul_left ROWS (omega arith) in
          let e = mul-suc ROWS k in
          let start : 0 + ROWS * k ≡ ROWS * k = omega arith in
          rw start at (inside few) ∙ slice_area (ROWS * k) ROWS cells ∙ sym (take_area (ROWS * pages) (ROWS * k) ROWS cells (omega arith))
      | no n ↦ both_none _ _ (outside (omega arith)) (device_page cells 0 pages k (omega arith))
    ]

pub link_slice : (k : ℕ) (cells : List ℕ) {r : List ℕ}
    → (k < LINKPAGES → r ≡ slice_range cells (LINKSAT + LINKS * k) (LINKSAT + LINKS * k + LINKS)) → (LINKPAGES ≤ k → length r ≡ 0) → r ≡ link_col k cells
unfolding link_col page
link_slice k cells {r} inside outside =
    elim (dec_lt k LINKPAGES) [
      | yes few ↦
          let z : LINKS * suc k ≤ LINKS * LINKPAGES = mul-le-mul_left LINKS (omega arith) in
          let e = mul-suc LINKS k in
          inside few ∙ slice_area (LINKSAT + LINKS * k) LINKS cells ∙ sym (area_area LINKSAT (LINKS * LINKPAGES) (LINKS * k) LINKS cells (omega arith))
      | no n ↦ both_none _ _ (outside (omega arith)) (link_page cells 0 k (omega arith))
    ]

pub tail_read : (cells : List ℕ) (i : ℕ) → i < BYTENUMBERS → get_or (byte_tail cells) i 0 ≡ get_or cells (BYTETAIL + i) 0
unfolding byte_tail
tail_read cells i l = area_read BYTETAIL BYTENUMBERS cells i l

pub word_tail_read : (cells : List ℕ) (i : ℕ) → i < WORDNUMBERS → get_or (word_tail cells) i 0 ≡ get_or cells (WORDTAIL + i) 0
unfolding word_tail
word_tail_read cells i l = area_read WORDTAIL WORDNUMBERS cells i l

pub carried_read : (cells : List ℕ) (i : ℕ) {at : ℕ} → i < 3 → BYTETAIL + CARRIED + i ≡ at → get_or (area CARRIED 3 (byte_tail cells)) i 0 ≡ get_or cells at 0
carried_read cells i l e = area_read CARRIED 3 (byte_tail cells) i l ∙ tail_read cells (CARRIED + i) (omega arith) ∙ ap (λ k. get_or cells k 0) (omega arith)

pub carried_row : (cells : List ℕ) (i : ℕ) → 3 ≤ i → length (area CARRIED 3 (byte_tail cells)) ≤ i
carried_row cells i l = let h = area_short CARRIED 3 (byte_tail cells) in omega arith

-- three cells
pub three_cells : (l : List ℕ) → length l ≡ 3 → l ≡ get_or l 0 0 ∷ get_or l 1 0 ∷ get_or l 2 0 ∷ []
three_cells (a ∷ b ∷ c ∷ []) e = refl
three_cells (a ∷ b ∷ c ∷ d ∷ l) e = absurd (omega arith)
three_cells (a ∷ b ∷ []) e = absurd (omega arith)
three_cells (a ∷ []) e = absurd (omega arith)
three_cells [] e = absurd (omega arith)

pub three_set : (l : List ℕ) (a b c : ℕ) → length l ≡ 3 → set (set (set l 0 a) 1 b) 2 c ≡ a ∷ b ∷ c ∷ []
three_set l a b c e = rw (three_cells l e)

pub carried_long : (cells : List ℕ) → BYTES ≤ length cells → length (area CARRIED 3 (byte_tail cells)) ≡ 3
carried_long cells long = let z = tail_length cells 0 0 long in area_length CARRIED 3 (byte_tail cells) (omega arith)

pub carried_all : (cells : List ℕ) → BYTES ≤ length cells
    → get_or cells (BYTETAIL + 5) 0 ∷ get_or cells (BYTETAIL + 6) 0 ∷ get_or cells (BYTETAIL + 7) 0 ∷ [] ≡ area CARRIED 3 (byte_tail cells)
carried_all cells long =
    let t = area CARRIED 3 (byte_tail cells) in
    let a : get_or t 0 0 ≡ get_or cells (BYTETAIL + 5) 0 = carried_read cells 0 (omega arith) (omega arith) in
    let b : get_or t 1 0 ≡ get_or cells (BYTETAIL + 6) 0 = carried_read cells 1 (omega arith) (omega arith) in
    let c : get_or t 2 0 ≡ get_or cells (BYTETAIL + 7) 0 = carried_read cells 2 (omega arith) (omega arith) in
    rw (← a, ← b, ← c) (sym (three_cells t (carried_long cells long)))
