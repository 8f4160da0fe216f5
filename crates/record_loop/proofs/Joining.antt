-- Bytes in their places: a byte of the joined bytes, the four bytes of a record, and replies in the buffer. Assumes nothing.
use mathlib.Core.Path.{◌≡◌, refl, sym, ◌∙◌, ap}
use mathlib.Core.List.{List, [], ◌∷◌, ◌++◌, append_assoc, append-nil}
use Prim.Native.Nat.{ℕ, suc, ◌+◌, ◌-◌, ◌<◌, ◌≤◌}
use native.Mathlib.Omega.{arith}
use native.Mathlib.Nat.{add-zero}
use lib.ListN.{length, get_or, set, take, drop, length-append, length-drop, take-append-drop}
use lib.Seq.{take_all, drop-length, length-take-le, drop-cons, drop-drop, take_at, drop_at, get_or-take, get_or-append-add, sets-eq}
use Rattle.model.specs.Feed.{over}
use Rattle.record_loop.specs.Runs.{over_at}

-- ---- a byte of the joined bytes
module _ (carried piece : List ℕ) (used : ℕ) (few : used ≤ length carried) where
  pub carried_at : (i : ℕ) → i < used → get_or carried i 0 ≡ get_or (take used carried ++ piece) i 0
  carried_at i h =
      let front = take_at (take used carried) piece used (length-take-le used carried few) in
      sym (get_or-take used carried i 0 h) ∙ (rw front at (get_or-take used (take used carried ++ piece) i 0 h))

  pub piece_at : (i k : ℕ) → used + k ≡ i → get_or piece k 0 ≡ get_or (take used carried ++ piece) i 0
  piece_at i k e =
      let l = length-take-le used carried few in
      let n : length (take used carried) + k ≡ i = omega arith in
      sym (rw n at (get_or-append-add (take used carried) piece k 0))

  pub joined_length : length (take used carried ++ piece) ≡ used + length piece
  joined_length = rw (length-append, length-take-le used carried few)

  -- where the carried bytes end before place i, the bytes from there on are the piece's
  pub rest_after : (i : ℕ) → used ≤ i → drop (i - used) piece ≡ drop i (take used carried ++ piece)
  rest_after i h =
      let e : used + (i - used) ≡ i = omega arith in
      let front = drop_at (take used carried) piece used (length-take-le used carried few) in
      ap (drop (i - used)) (sym front) ∙ rw e at (drop-drop (i - used) used (take used carried ++ piece))

-- ---- the next four bytes
pub next_four : (w : List ℕ) (i : ℕ) → i + 4 ≤ length w
    → drop i w ≡ get_or w i 0 ∷ get_or w (i + 1) 0 ∷ get_or w (i + 2) 0 ∷ get_or w (i + 3) 0 ∷ drop (i + 4) w
next_four w i h =
    let a : suc i ≡ i + 1 = omega arith in
    let b : suc (i + 1) ≡ i + 2 = omega arith in
    let c : suc (i + 2) ≡ i + 3 = omega arith in
    let d : suc (i + 3) ≡ i + 4 = omega arith in
    rw (drop-cons w i 0 (omega arith), a, drop-cons w (i + 1) 0 (omega arith), b)
    (rw (drop-cons w (i + 2) 0 (omega arith), c, drop-cons w (i + 3) 0 (omega arith), d))

-- ---- bytes in their places
split : (i : ℕ) (b out : List ℕ) → over_at i b out ≡ take i out ++ (b ++ drop (i + length b) out)
unfolding over_at
split i b out = refl

module _ (out : List ℕ) (i : ℕ) (a : List ℕ) (four : length a ≡ 4) (fits : i + 4 ≤ length out) where
  front : length (take i out ++ a) ≡ i + 4
  front = rw (length-append, length-take-le i out (omega arith), four)

  pub over_length : length (over_at i a out) ≡ length out
  unfolding over_at
  over_length = let l = length-take-le i out (omega arith) in simp (length-append, length-drop) (omega arith)

  over_take : take (i + 4) (over_at i a out) ≡ take i out ++ a
  unfolding over_at
  over_take = rw (← append_assoc) (take_at (take i out ++ a) (drop (i + length a) out) (i + 4) front)

  over_drop : (k : ℕ) → drop (i + 4 + k) (over_at i a out) ≡ drop (i + (4 + k)) out
  unfolding over_at
  over_drop k =
      let e : i + 4 + k ≡ i + (4 + k) = omega arith in
      rw (← append_assoc, ← drop-drop k (i + 4) ((take i out ++ a) ++ drop (i + length a) out))
      (ap (drop k) (drop_at (take i out ++ a) (drop (i + length a) out) (i + 4) front) ∙ rw four (drop-drop k (i + 4) out ∙ rw e))

  -- the bytes a, then b after them
  pub over_more : (b : List ℕ) → over_at (i + 4) b (over_at i a out) ≡ over_at i (a ++ b) out
  over_more b =
      let d = drop (i + (4 + length b)) out in
      split (i + 4) b (over_at i a out)
      ∙ rw (over_take, over_drop (length b), split i (a ++ b) out, length-append a b, four, append_assoc (take i out) a (b ++ d), append_assoc a b d)

-- four bytes set one after another
pub over_four : (out : List ℕ) (i a b c d : ℕ) → i + 4 ≤ length out
    → set (set (set (set out i a) (i + 1) b) (i + 2) c) (i + 3) d ≡ over_at i (a ∷ b ∷ c ∷ d ∷ []) out
unfolding over_at
over_four out i a b c d h =
    let e : i + 1 ≡ suc i = omega arith in
    let f : i + 2 ≡ suc (suc i) = omega arith in
    let g : i + 3 ≡ suc (suc (suc i)) = omega arith in
    let v = a ∷ b ∷ c ∷ d ∷ [] in
    rw (e, f, g) (sets-eq v out i h ∙ append_assoc (take i out) v (drop (i + 4) out))

pub over_front : (b out : List ℕ) → over_at 0 b out ≡ over b out
unfolding over_at
over_front b out = let e : 0 + length b ≡ length b = omega arith in rw e

pub over_none : (i : ℕ) (out : List ℕ) → over_at i [] out ≡ out
unfolding over_at
over_none i out = rw (add-zero i) (take-append-drop i out)

-- ---- the part of a list from place i on, as a slice of it is lent and comes back
pub part_lent : (i : ℕ) (w : List ℕ) → take (length w - i) (drop i w) ≡ drop i w
part_lent i w = take_all (length w - i) (drop i w) (rw (length-drop i w) (omega arith))

pub part_back : (i : ℕ) (out part : List ℕ) → i ≤ length out → take i out ++ (part ++ drop (length out - i) (drop i out)) ≡ take i out ++ part
part_back i out part h = let e : i + (length out - i) ≡ length out = omega arith in rw (drop-drop (length out - i) i out, e, drop-length out, append-nil part)

-- bytes in that part of the buffer
pub over_part : (i : ℕ) (b out : List ℕ) → take i out ++ over_at 0 b (drop i out) ≡ over_at i b out
unfolding over_at
over_part i b out = let e : 0 + length b ≡ length b = omega arith in rw (e, drop-drop (length b) i out)
