-- The index counted up: how many links each device has, then how many there are below each. Assumes nothing.
use mathlib.Core.Path.{◌≡◌, refl, sym, ◌∙◌, ap}
use mathlib.Core.List.{List}
use Prim.Native.Nat.{ℕ, zero, suc, ◌+◌, ◌<◌, ◌≤◌}
use native.Mathlib.Omega.{arith}
use native.Mathlib.Numerals.{add-one}
use native.Mathlib.Decide.{ℕ_discrete, dec_lt}
use lib.ListN.{length, get_or, set, replicate, length-set, length-replicate, get_or-replicate}
use lib.Seq.{get_or-set_same, get_or-set_other, ext_get_or}
use lib.Dec.{ltb, eqb}
use borrow.Author.Tests.{lt-ltb, le-ltb, eq-eqb, ne_eqb}
use Rattle.model.specs.Limits.{ROWS}
use Rattle.model.specs.Logic.{bit, count, column}
use Rattle.model.specs.Table.{Wiring}
use Rattle.model.proofs.Counting.{at_column, length_column, count_low}
use Rattle.links.specs.Firsts.{first_link, first_links, Tallied}

-- ---- how many links each device has
pub tallied_none : (consumer : List ℕ) → Tallied consumer 0 (replicate 257 0)
unfolding count ROWS
tallied_none consumer = record { long = length-replicate {A = ℕ} 257 0; zero = get_or-replicate {A = ℕ} 257 0 0 0 (omega arith); at = λ q l. get_or-replicate {A = ℕ} 257 (q + 1) 0 0 (omega arith) }

pub tallied_fits : (consumer : List ℕ) (i : ℕ) (first : List ℕ) (at : ℕ) → Tallied consumer i first → at ≤ 256 → get_or first at 0 ≤ i
unfolding ROWS
tallied_fits consumer i first zero h l = let z = h.zero in omega arith
tallied_fits consumer i first (suc q) h l = let z = rw (add-one q) at (h.at q (omega arith)) in let y = count_low (λ k. eqb (get_or consumer k 0) q) i in omega arith

pub tallied_more :
    (consumer : List ℕ) (i : ℕ) (first : List ℕ) (c at : ℕ)
    → Tallied consumer i first → c ≡ get_or consumer i 0 → at ≡ c + 1 → at < 257 → Tallied consumer (i + 1) (set first at (get_or first at 0 + 1))
unfolding count ROWS
tallied_more consumer i first c at h e f l =
    let long = h.long in
    let v = get_or first at 0 + 1 in
    record {
      long = length-set first at v ∙ long;
      zero = get_or-set_other first at 0 v 0 (λ z. omega arith) ∙ h.zero;
      at =
          λ q b.
          elim (ℕ_discrete (q + 1) at) [
            | yes y ↦
                let here : bit (eqb (get_or consumer i 0) q) ≡ 1 = ap bit (eq-eqb (get_or consumer i 0) q (omega arith)) in
                let old = h.at q b in
                let z = rw y at old in
                rw (y, get_or-set_same first at v 0 (omega arith), add-one i) (omega arith)
            | no ne ↦
                let off : bit (eqb (get_or consumer i 0) q) ≡ 0 = ap bit (ne_eqb (get_or consumer i 0) q (λ z. ne (omega arith))) in
                let old = h.at q b in
                rw (get_or-set_other first at (q + 1) v 0 ne, add-one i) (omega arith)
          ];
    }

-- ---- how many there are below each
-- those below p + 1 are those below p and those of p
next_below : (consumer : List ℕ) (p m : ℕ) → count (λ k. ltb (get_or consumer k 0) (p + 1)) m ≡ count (λ k. ltb (get_or consumer k 0) p) m + count (λ k. eqb (get_or consumer k 0) p) m
unfolding count
next_below consumer p zero = refl
next_below consumer p (suc m) = let h = next_below consumer p m in let b = one (get_or consumer m 0) in omega arith
  where
    one : (c : ℕ) → bit (ltb c (p + 1)) ≡ bit (ltb c p) + bit (eqb c p)
    one c =
        elim (dec_lt c p) [
          | yes l ↦ rw (lt-ltb c p l, lt-ltb c (p + 1) (omega arith), ne_eqb c p (λ z. omega arith))
          | no g ↦ elim (ℕ_discrete c p) [
            | yes e ↦ rw (le-ltb c p (omega arith), lt-ltb c (p + 1) (omega arith), eq-eqb c p e)
            | no ne ↦ rw (le-ltb c p (omega arith), le-ltb c (p + 1) (omega arith), ne_eqb c p ne)
          ]
        ]

none_below : (consumer : List ℕ) (m : ℕ) → count (λ k. ltb (get_or consumer k 0) 0) m ≡ 0
unfolding count
none_below consumer zero = refl
none_below consumer (suc m) = let h = none_below consumer m in let b : bit (ltb (get_or consumer m 0) 0) ≡ 0 = ap bit (le-ltb (get_or consumer m 0) 0 (omega arith)) in omega arith

-- the rows up to p are counted up, those after it are not
pub record Summed (consumer : List ℕ) (m p : ℕ) (first : List ℕ) : Type 0 where
  pub few : p ≤ 256
  pub long : length first ≡ 257
  pub below : (q : ℕ) → q ≤ p → get_or first q 0 ≡ count (λ k. ltb (get_or consumer k 0) q) m
  pub above : (q : ℕ) → p ≤ q → q < 256 → get_or first (q + 1) 0 ≡ count (λ k. eqb (get_or consumer k 0) q) m

pub summed_none : (consumer : List ℕ) (m : ℕ) (first : List ℕ) → Tallied consumer m first → Summed consumer m 0 first
unfolding ROWS
summed_none consumer m first h =
    record { few = omega arith; long = h.long; below = λ q l. let e : q ≡ 0 = omega arith in rw e (h.zero ∙ sym (none_below consumer m)); above = λ q a l. h.at q l }

module _ (consumer : List ℕ) (m p : ℕ) (first : List ℕ) (h : Summed consumer m p first) (l : p < 256) where
  sum_is : get_or first (p + 1) 0 + get_or first p 0 ≡ count (λ k. ltb (get_or consumer k 0) (p + 1)) m
  sum_is = let a = h.above p (omega arith) l in let b = h.below p (omega arith) in let n = next_below consumer p m in omega arith

  pub sum_fits : get_or first (p + 1) 0 + get_or first p 0 ≤ m
  sum_fits = let e = sum_is in let z = count_low (λ k. ltb (get_or consumer k 0) (p + 1)) m in omega arith

  pub summed_more : Summed consumer m (p + 1) (set first (p + 1) (get_or first (p + 1) 0 + get_or first p 0))
  summed_more =
      let v = get_or first (p + 1) 0 + get_or first p 0 in
      let long = h.long in
      record {
        few = omega arith;
        long = length-set first (p + 1) v ∙ long;
        below = λ q b. elim (ℕ_discrete q (p + 1)) [ yes y ↦ rw (y, get_or-set_same first (p + 1) v 0 (omega arith)) sum_is | no ne ↦ get_or-set_other first (p + 1) q v 0 ne ∙ h.below q (omega arith) ];
        above = λ q a b. get_or-set_other first (p + 1) (q + 1) v 0 (λ z. omega arith) ∙ h.above q (omega arith) b;
      }

pub summed_all : (w : Wiring) (p : ℕ) (first : List ℕ) → Summed w.consumer w.m p first → 256 ≤ p → first ≡ first_links w
unfolding first_links first_link ROWS
summed_all w p first h g =
    ext_get_or 0 first (column (first_link w) 257) (h.long ∙ sym (length_column (first_link w) 257))
    (λ q b. let z = h.few in let y = h.long in h.below q (omega arith) ∙ sym (at_column (first_link w) 257 q (omega arith)))
