-- A memory and its state determine each other. Assumes nothing.
use mathlib.Core.Path.{◌≡◌, refl, sym, ◌∙◌, ap}
use mathlib.Core.List.{List, [], ◌∷◌, ◌++◌}
use Prim.Native.Nat.{ℕ, suc, ◌+◌, ◌*◌, ◌<◌, ◌≤◌}
use native.Mathlib.Omega.{arith}
use native.Mathlib.Nat.{mul-le-mul_left, mul-suc}
use lib.ListN.{length, get_or, replicate, take, drop, length-append, length-take, length-drop, take-append-drop, drop_of_length-le}
use lib.Seq.{drop-cons, drop-drop, take_all}
use Rattle.model.specs.Limits.{ROWS, LINKS}
use Rattle.model.specs.State.{State, at_rest, empty_state}
use Rattle.model.specs.Sound.{Sound}
use Rattle.model.proofs.SoundTest.{Shaped, sound_shaped}
use Rattle.memory.specs.Layout.{PARENT, IGNORE, STATUS, DEPTH, CHILDREN, CONSUMER, SUPPLIER, FLAGS, HOLDS, ERROR, LINKED, BYTEPAGES, LINKPAGES, WORDPAGES}
use Rattle.memory.specs.Layout.{LINKCOUNT, WORDNUMBERS, BYTENUMBERS, CARRIED, LINKSAT, BYTETAIL, WORDTAIL, BYTES, WORDS}
use Rattle.memory.specs.Layout.{area, page, device_col, link_col, byte_tail, word_tail, state_in, byte_numbers, bytes_of, words_of, OneMemory}
use Rattle.memory.proofs.Pages.{area_length, take_area, area_area, tail_length}

-- ---- a list cut into areas
-- an area and what follows it
cut : (from size next : ℕ) (cells : List ℕ) {rest : List ℕ} → from + size ≡ next → rest ≡ drop next cells → area from size cells ++ rest ≡ drop from cells
unfolding area
cut from size next cells e h = rw (h, ← e, ← drop-drop size from cells) (take-append-drop size (drop from cells))

-- ---- the memory of the state of a memory
module _ (cells : List ℕ) where
  device_cut : {rest : List ℕ} (pages k : ℕ) → ROWS * pages ≤ length cells → k < pages → rest ≡ drop (ROWS * suc k) cells → device_col pages k cells ++ rest ≡ drop (ROWS * k) cells
  unfolding device_col page
  device_cut pages k long few h =
      let z : ROWS * suc k ≤ ROWS * pages = mul-le-mul_left ROWS (omega arith) in
      let e = mul-suc ROWS k in
      rw (take_area (ROWS * pages) (ROWS * k) ROWS cells (omega arith)) (cut (ROWS * k) ROWS (ROWS * suc k) cells (omega arith) h)

  link_cut : {rest : List ℕ} (k : ℕ) → BYTETAIL ≤ length cells → k < LINKPAGES → rest ≡ drop (LINKSAT + LINKS * suc k) cells → link_col k cells ++ rest ≡ drop (LINKSAT + LINKS * k) cells
  unfolding link_col page
  link_cut k long few h =
      let z : LINKS * suc k ≤ LINKS * LINKPAGES = mul-le-mul_left LINKS (omega arith) in
      let e = mul-suc LINKS k in
      rw (area_area LINKSAT (LINKS * LINKPAGES) (LINKS * k) LINKS cells (omega arith))
      (cut (LINKSAT + LINKS * k) LINKS (LINKSAT + LINKS * suc k) cells (omega arith) h)

  device_rows : (pages k : ℕ) → ROWS * pages ≤ length cells → k < pages → length (device_col pages k cells) ≡ ROWS
  unfolding device_col page
  device_rows pages k long few =
      let z : ROWS * suc k ≤ ROWS * pages = mul-le-mul_left ROWS (omega arith) in
      let e = mul-suc ROWS k in
      let f = length-take (ROWS * pages) cells in
      area_length (ROWS * k) ROWS (take (ROWS * pages) cells) (omega arith)

  pub link_rows : (k : ℕ) → BYTETAIL ≤ length cells → k < LINKPAGES → length (link_col k cells) ≡ LINKS
  unfolding link_col page
  link_rows k long few =
      let z : LINKS * suc k ≤ LINKS * LINKPAGES = mul-le-mul_left LINKS (omega arith) in
      let e = mul-suc LINKS k in
      let f = area_length LINKSAT (LINKS * LINKPAGES) cells long in
      area_length (LINKS * k) LINKS (area LINKSAT (LINKS * LINKPAGES) cells) (omega arith)

-- eight cells: five numbers and the three carried bytes
five : (t : List ℕ) → length t ≡ BYTENUMBERS → t ≡ get_or t 0 0 ∷ get_or t 1 0 ∷ get_or t 2 0 ∷ get_or t 3 0 ∷ get_or t 4 0 ∷ drop 5 t
five t l =
    drop-cons t 0 0 (omega arith)
    ∙ ap (◌∷◌ (get_or t 0 0)) (drop-cons t 1 0 (omega arith)
    ∙ ap (◌∷◌ (get_or t 1 0)) (drop-cons t 2 0 (omega arith)
    ∙ ap (◌∷◌ (get_or t 2 0)) (drop-cons t 3 0 (omega arith)
    ∙ ap (◌∷◌ (get_or t 3 0)) (drop-cons t 4 0 (omega arith)))))

three : (t : List ℕ) → length t ≡ BYTENUMBERS → area CARRIED 3 t ≡ drop 5 t
unfolding area
three t l = take_all 3 (drop 5 t) (rw length-drop (omega arith))

-- the last area
last_area : (from size : ℕ) (cells : List ℕ) → length cells ≡ from + size → area from size cells ≡ drop from cells
unfolding area
last_area from size cells e = take_all size (drop from cells) (rw length-drop (omega arith))

-- the bytes and the words of the state in them, where the arrays have their lengths
module _ (bytes words : List ℕ) where
  numbers_of : length bytes ≡ BYTES → byte_numbers (state_in bytes words) ≡ drop BYTETAIL bytes
  unfolding byte_numbers state_in BYTES byte_tail
  numbers_of e =
      let t = area BYTETAIL BYTENUMBERS bytes in
      let l : length t ≡ BYTENUMBERS = area_length BYTETAIL BYTENUMBERS bytes (omega arith) in
      rw (three t l) (sym (five t l) ∙ last_area BYTETAIL BYTENUMBERS bytes e)

  pub bytes_of_lem : length bytes ≡ BYTES → bytes_of (state_in bytes words) ≡ bytes
  unfolding bytes_of state_in BYTES ROWS LINKS
  bytes_of_lem e =
      device_cut bytes BYTEPAGES PARENT (omega arith) (omega arith)
      (device_cut bytes BYTEPAGES IGNORE (omega arith) (omega arith)
      (device_cut bytes BYTEPAGES STATUS (omega arith) (omega arith)
      (device_cut bytes BYTEPAGES DEPTH (omega arith) (omega arith)
      (device_cut bytes BYTEPAGES CHILDREN (omega arith) (omega arith)
      (link_cut bytes CONSUMER (omega arith) (omega arith)
      (link_cut bytes SUPPLIER (omega arith) (omega arith)
      (link_cut bytes FLAGS (omega arith) (omega arith)
      (numbers_of e))))))))

  word_number : length words ≡ WORDS → get_or (word_tail words) LINKCOUNT 0 ∷ [] ≡ drop WORDTAIL words
  unfolding word_tail WORDS
  word_number e =
      let t = area WORDTAIL WORDNUMBERS words in
      let l : length t ≡ WORDNUMBERS = area_length WORDTAIL WORDNUMBERS words (omega arith) in
      let z : drop 1 t ≡ [] = drop_of_length-le t {i = 1} (omega arith) in
      let y : t ≡ get_or t 0 0 ∷ [] = drop-cons t 0 0 (omega arith) ∙ ap (◌∷◌ (get_or t 0 0)) z in
      sym y ∙ last_area WORDTAIL WORDNUMBERS words e

  pub words_of_lem : length words ≡ WORDS → words_of (state_in bytes words) ≡ words
  unfolding words_of state_in WORDS ROWS
  words_of_lem e =
      device_cut words WORDPAGES HOLDS (omega arith) (omega arith)
      (device_cut words WORDPAGES ERROR (omega arith) (omega arith)
      (device_cut words WORDPAGES LINKED (omega arith) (omega arith)
      (word_number e)))

  -- every column has its rows
  pub shaped_in : length bytes ≡ BYTES → length words ≡ WORDS → Shaped (state_in bytes words)
  unfolding state_in BYTES WORDS
  shaped_in e f =
      record {
        parent = device_rows bytes BYTEPAGES PARENT (omega arith) (omega arith);
        ignore = device_rows bytes BYTEPAGES IGNORE (omega arith) (omega arith);
        consumer = link_rows bytes CONSUMER (omega arith) (omega arith);
        supplier = link_rows bytes SUPPLIER (omega arith) (omega arith);
        flags = link_rows bytes FLAGS (omega arith) (omega arith);
        status = device_rows bytes BYTEPAGES STATUS (omega arith) (omega arith);
        holds = device_rows words WORDPAGES HOLDS (omega arith) (omega arith);
        depth = device_rows bytes BYTEPAGES DEPTH (omega arith) (omega arith);
        error = device_rows words WORDPAGES ERROR (omega arith) (omega arith);
        children = device_rows bytes BYTEPAGES CHILDREN (omega arith) (omega arith);
        linked = device_rows words WORDPAGES LINKED (omega arith) (omega arith);
        bytes = let z = tail_length bytes 0 0 (omega arith) in area_length CARRIED 3 (byte_tail bytes) (omega arith);
      }

-- ---- two memories that hold the same state are the same
pub one_memory : OneMemory
one_memory bytes words bytes₁ words₁ h k e = (
  sym (bytes_of_lem bytes words h.all_bytes) ∙ ap bytes_of e ∙ bytes_of_lem bytes₁ words₁ k.all_bytes,
  sym (words_of_lem bytes words h.all_words) ∙ ap words_of e ∙ words_of_lem bytes₁ words₁ k.all_words,
)

-- ---- every state whose columns have their rows comes from its memory
-- two joined lists of like parts
halves : (a b : List ℕ) {x y : List ℕ} → length a ≡ length b → a ++ x ≡ b ++ y → (a ≡ b) × (x ≡ y)
halves [] [] l e = (refl, e)
halves [] (q ∷ b) l e = absurd (omega arith)
halves (p ∷ a) [] l e = absurd (omega arith)
halves (p ∷ a) (q ∷ b) {x} {y} l e =
    let h : p ≡ q = cc in
    let t : a ++ x ≡ b ++ y = cc in
    let (z, r) = halves a b (omega arith) t in
    (cc, r)

pub bytes_long : {s : State} → Shaped s → length (bytes_of s) ≡ BYTES
unfolding bytes_of byte_numbers BYTES
bytes_long {s} h = let z = h.bytes in simp (length-append, h.parent, h.ignore, h.status, h.depth, h.children, h.consumer, h.supplier, h.flags) (omega arith)

pub words_long : {s : State} → Shaped s → length (words_of s) ≡ WORDS
unfolding words_of WORDS
words_long {s} h = simp (length-append, h.holds, h.error, h.linked) (omega arith)

-- a state from its fields, in the order of the memory
made : List ℕ → List ℕ → List ℕ → List ℕ → List ℕ → List ℕ → List ℕ → List ℕ → List ℕ → List ℕ → List ℕ → List ℕ → List ℕ → State
made pa ig st de ch co su fl nu ho er li m =
    record {
      wiring = record { n = get_or nu 0 0; m = get_or m 0 0; parent = pa; ignore = ig; consumer = co; supplier = su; flags = fl };
      devices = record { status = st; holds = ho; depth = de; error = er; children = ch; linked = li };
      callback = record { kind = get_or nu 1 0; asked = get_or nu 2 0; target = get_or nu 3 0 };
      carry = record { bytes = drop 5 nu; used = get_or nu 4 0 };
    }

abbrev fields : State → State
fields s =
    let w = s.wiring in
    let d = s.devices in
    made w.parent w.ignore d.status d.depth d.children w.consumer w.supplier w.flags (byte_numbers s) d.holds d.error d.linked (w.m ∷ [])

again : (s : State) → fields s ≡ s
unfolding made byte_numbers
again s = refl

pub same_state : {s t : State} → Shaped s → Shaped t → bytes_of s ≡ bytes_of t → words_of s ≡ words_of t → s ≡ t
unfolding bytes_of words_of
same_state {s} {t} g h e f =
    let (pa, e1) = halves s.wiring.parent t.wiring.parent (g.parent ∙ sym h.parent) e in
    let (ig, e2) = halves s.wiring.ignore t.wiring.ignore (g.ignore ∙ sym h.ignore) e1 in
    let (st, e3) = halves s.devices.status t.devices.status (g.status ∙ sym h.status) e2 in
    let (de, e4) = halves s.devices.depth t.devices.depth (g.depth ∙ sym h.depth) e3 in
    let (ch, e5) = halves s.devices.children t.devices.children (g.children ∙ sym h.children) e4 in
    let (co, e6) = halves s.wiring.consumer t.wiring.consumer (g.consumer ∙ sym h.consumer) e5 in
    let (su, e7) = halves s.wiring.supplier t.wiring.supplier (g.supplier ∙ sym h.supplier) e6 in
    let (fl, e8) = halves s.wiring.flags t.wiring.flags (g.flags ∙ sym h.flags) e7 in
    let (ho, f1) = halves s.devices.holds t.devices.holds (g.holds ∙ sym h.holds) f in
    let (er, f2) = halves s.devices.error t.devices.error (g.error ∙ sym h.error) f1 in
    let (li, f3) = halves s.devices.linked t.devices.linked (g.linked ∙ sym h.linked) f2 in
    sym (again s) ∙ rw (e8, f3, pa, ig, st, de, ch, co, su, fl, ho, er, li) (again t)

pub state_of_lem : {s : State} → Shaped s → state_in (bytes_of s) (words_of s) ≡ s
state_of_lem {s} h =
    let a = bytes_long h in
    let b = words_long h in
    same_state (shaped_in (bytes_of s) (words_of s) a b) h (bytes_of_lem (bytes_of s) (words_of s) a) (words_of_lem (bytes_of s) (words_of s) b)

-- every sound state has a memory, one only
pub sound_memory : {s : State} → Sound s → state_in (bytes_of s) (words_of s) ≡ s
sound_memory h = state_of_lem (sound_shaped h)

-- the memory of zeros is that of the empty bench
pub empty_memory : state_in (replicate BYTES 0) (replicate WORDS 0) ≡ empty_state
unfolding state_in device_col link_col byte_tail word_tail page area BYTES WORDS ROWS LINKS empty_state at_rest
empty_memory = refl
