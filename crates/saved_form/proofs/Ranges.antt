-- Every word of a sound bench fits four bytes. Assumes nothing.
use mathlib.Core.List.{List, [], ◌∷◌, ◌++◌}
use Prim.Native.Nat.{ℕ, zero, suc, ◌<◌, ◌≤◌}
use native.Mathlib.Omega.{arith}
use native.Mathlib.Decide.{dec_lt}
use lib.ListN.{get_or, get_or-eq_default}
use Rattle.model.specs.Limits.{LINKS, ROWS}
use Rattle.model.specs.Logic.{tally}
use Rattle.model.specs.State.{State, link_count, linked_of}
use Rattle.model.specs.Table.{Wiring}
use Rattle.model.specs.Sound.{Column, Sound}
use Rattle.model.proofs.Counting.{count_low, long_linked, at_linked}
use Rattle.memory.specs.Layout.{WORD, Cells, words_of}

-- ---- cells of joined lists and of columns
append_below : {most : ℕ} (a b : List ℕ) → Cells most a → Cells most b → (i : ℕ) → get_or (a ++ b) i 0 < most
append_below [] b c d i = d.below i
append_below (x ∷ a) b c d zero = c.below 0
append_below (x ∷ a) b c d (suc i) = append_below a b (record { below = λ k. c.below (suc k) }) d i

append_cells : {most : ℕ} {a b : List ℕ} → Cells most a → Cells most b → Cells most (a ++ b)
append_cells {most} {a} {b} c d = record { below = append_below a b c d }

one_cell : {most x : ℕ} → x < most → Cells most (x ∷ [])
one_cell {most} {x} l = record { below = at }
  where
    at : (i : ℕ) → get_or (x ∷ []) i 0 < most
    at zero = l
    at (suc i) = omega arith

column_cells : {rows n most bound : ℕ} {col : List ℕ} → Column rows n most col → most < bound → Cells bound col
column_cells {rows} {n} {most} {bound} {col} c l =
    record { below = λ p. elim (dec_lt p n) [ yes y ↦ let z = c.used p y in omega arith | no g ↦ let z = c.unused p (omega arith) in omega arith ] }

-- a recount of links counts each once
counted_low : (w : Wiring) (status : List ℕ) (q : ℕ) → link_count w status q ≤ w.m
unfolding link_count tally
counted_low w status q = count_low _ w.m

linked_low : (w : Wiring) (status : List ℕ) (q : ℕ) → get_or (linked_of w status) q 0 ≤ w.m
linked_low w status q =
    elim (dec_lt q ROWS) [
      | yes y ↦ let z = at_linked w status q y in let k = counted_low w status q in omega arith
      | no g ↦ let l = long_linked w status in let z = get_or-eq_default (linked_of w status) 0 {n = q} (omega arith) in omega arith
    ]

pub words_low : {s : State} → Sound s → Cells WORD (words_of s)
unfolding words_of LINKS
words_low {s} h =
    let k = h.kept in
    let m = k.table.order.links in
    let few : Cells WORD s.devices.linked = record { below = λ q. rw k.linked (let z = linked_low s.wiring s.devices.status q in omega arith) } in
    append_cells (column_cells k.holds (omega arith)) (append_cells (column_cells k.errors (omega arith)) (append_cells few (one_cell (omega arith))))
