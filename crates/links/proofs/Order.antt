-- Links in order: those of a device are the ones from its first link to the next device's. Assumes nothing.
use mathlib.Core.Path.{◌≡◌, refl, ap}
use mathlib.Core.List.{List}
use Prim.Native.Nat.{ℕ, zero, suc, ◌+◌, ◌-◌, ◌<◌, ◌≤◌}
use native.Mathlib.Omega.{arith}
use native.Mathlib.Decide.{dec_lt}
use lib.ListN.{get_or}
use lib.Dec.{ltb}
use borrow.Author.Tests.{lt-ltb, le-ltb}
use Rattle.model.specs.Limits.{ROWS, LINKS}
use Rattle.model.specs.Logic.{bit, count}
use Rattle.model.specs.Table.{Wiring, before}
use Rattle.model.specs.State.{State}
use Rattle.model.specs.Sound.{Ordered}
use Rattle.model.proofs.Basics.{few_rows}
use Rattle.model.proofs.Logic.{tests}
use Rattle.model.proofs.Counting.{at_column, count_low, bit_low}
use Rattle.links.specs.Firsts.{first_link, first_links, Listed, Indexed}

module _ {w : Wiring} (r : Ordered w) where
  ascends : (i : ℕ) → i + 1 < w.m → get_or w.consumer i 0 ≤ get_or w.consumer (i + 1) 0
  unfolding before
  ascends i l =
      let f = simp tests at (r.ascending i (omega arith)) in
      elim (dec_lt (get_or w.consumer (i + 1) 0) (get_or w.consumer i 0)) [ yes y ↦ let e = (f (omega arith)).0 in omega arith | no n ↦ omega arith ]

  steps : (i k : ℕ) → i + k < w.m → get_or w.consumer i 0 ≤ get_or w.consumer (i + k) 0
  steps i zero l = let e : i + 0 ≡ i = omega arith in rw e (omega arith)
  steps i (suc k) l =
      let e : i + suc k ≡ i + k + 1 = omega arith in
      let f = steps i k (omega arith) in
      let g = ascends (i + k) (omega arith) in
      rw e (omega arith)

  ordered : (i j : ℕ) → i ≤ j → j < w.m → get_or w.consumer i 0 ≤ get_or w.consumer j 0
  ordered i j h l = let e : i + (j - i) ≡ j = omega arith in rw e at (steps i (j - i) (omega arith))

  -- among the links before n, the ones below p come first
  low : (p n : ℕ) → n ≤ w.m → (j : ℕ) → j < count (λ i. ltb (get_or w.consumer i 0) p) n → get_or w.consumer j 0 < p
  unfolding count
  low p zero h j l = absurd (omega arith)
  low p (suc n) h j l =
      elim (dec_lt (get_or w.consumer n 0) p) [
        | yes y ↦ let z = count_low (λ i. ltb (get_or w.consumer i 0) p) (suc n) in let o = ordered j n (omega arith) (omega arith) in omega arith
        | no g ↦ let b : bit (ltb (get_or w.consumer n 0) p) ≡ 0 = ap bit (le-ltb (get_or w.consumer n 0) p (omega arith)) in low p n (omega arith) j (omega arith)
      ]

  high : (p n j : ℕ) → n ≤ w.m → j < n → get_or w.consumer j 0 < p → j < count (λ i. ltb (get_or w.consumer i 0) p) n
  unfolding count
  high p zero j h l b = absurd (omega arith)
  high p (suc n) j h l b =
      elim (dec_lt j n) [
        | yes y ↦ let z = high p n j (omega arith) y b in omega arith
        | no g ↦
            let e : j ≡ n = omega arith in
            let here : bit (ltb (get_or w.consumer n 0) p) ≡ 1 = ap bit (lt-ltb _ _ (rw e at b)) in
            let below : (i : ℕ) → i < n → get_or w.consumer i 0 < p = λ i k. let o = ordered i n (omega arith) (omega arith) in let c = rw e at b in omega arith in
            let all = full n (omega arith) below in
            omega arith
      ]
    where
      full : (k : ℕ) → k ≤ w.m → ((i : ℕ) → i < k → get_or w.consumer i 0 < p) → count (λ i. ltb (get_or w.consumer i 0) p) k ≡ k
      full zero g f = refl
      full (suc k) g f =
          let a = full k (omega arith) (λ i l. f i (omega arith)) in
          let z : bit (ltb (get_or w.consumer k 0) p) ≡ 1 = ap bit (lt-ltb _ _ (f k (omega arith))) in
          omega arith

  -- the links from the first of p to the first of p + 1 are those of p
  pub link_of : (p j : ℕ) → first_link w p ≤ j → j < first_link w (p + 1) → (j < w.m) × (get_or w.consumer j 0 ≡ p)
  unfolding first_link
  link_of p j a b =
      let c = count_low (λ i. ltb (get_or w.consumer i 0) (p + 1)) w.m in
      let u = low (p + 1) w.m (omega arith) j b in
      (omega arith, elim (dec_lt (get_or w.consumer j 0) p) [ yes y ↦ let z = high p w.m j (omega arith) (omega arith) y in absurd (omega arith) | no g ↦ omega arith ])

  pub of_link : (p j : ℕ) → j < w.m → get_or w.consumer j 0 ≡ p → (first_link w p ≤ j) × (j < first_link w (p + 1))
  unfolding first_link
  of_link p j l e = (
    elim (dec_lt j (count (λ i. ltb (get_or w.consumer i 0) p) w.m)) [ yes y ↦ let z = low p w.m (omega arith) j y in absurd (omega arith) | no g ↦ omega arith ],
    high (p + 1) w.m j (omega arith) l (omega arith),
  )

-- reading the index
module _ (w : Wiring) where
  pub first_at : (p : ℕ) → p < ROWS → get_or (first_links w) p 0 ≡ first_link w p
  unfolding first_links
  first_at p l = at_column (first_link w) (ROWS + 1) p (omega arith)

  pub next_at : (p : ℕ) → p < ROWS → get_or (first_links w) (p + 1) 0 ≡ first_link w (p + 1)
  unfolding first_links
  next_at p l = at_column (first_link w) (ROWS + 1) (p + 1) (omega arith)

  pub first_rises : (p : ℕ) → first_link w p ≤ first_link w (p + 1)
  unfolding first_link count
  first_rises p = count_rises w.m
    where
      count_rises : (m : ℕ) → count (λ i. ltb (get_or w.consumer i 0) p) m ≤ count (λ i. ltb (get_or w.consumer i 0) (p + 1)) m
      count_rises zero = omega arith
      count_rises (suc m) =
          let h = count_rises m in
          elim (dec_lt (get_or w.consumer m 0) p) [
            | yes y ↦
                let a : bit (ltb (get_or w.consumer m 0) (p + 1)) ≡ 1 = ap bit (lt-ltb (get_or w.consumer m 0) (p + 1) (omega arith)) in
                let b = bit_low (ltb (get_or w.consumer m 0) p) in
                omega arith
            | no g ↦ let a : bit (ltb (get_or w.consumer m 0) p) ≡ 0 = ap bit (le-ltb (get_or w.consumer m 0) p (omega arith)) in omega arith
          ]

  pub first_low : (p : ℕ) → first_link w p ≤ w.m
  unfolding first_link
  first_low p = count_low _ w.m

pub listed : {s : State} {first : List ℕ} → Indexed s first → Listed s.wiring first
listed h = record { order = h.ready.rules.order; index = h.index }

-- the index at a device
module _ {w : Wiring} {first : List ℕ} (h : Listed w first) (p : ℕ) where
  pub index_first : p < w.n → get_or first p 0 ≡ first_link w p
  index_first l = let z = few_rows h.order.devices in rw h.index (first_at w p (omega arith))

  pub index_next : p < w.n → get_or first (p + 1) 0 ≡ first_link w (p + 1)
  index_next l = let z = few_rows h.order.devices in rw h.index (next_at w p (omega arith))

  pub next_fits : first_link w (p + 1) ≤ LINKS
  next_fits = let a = first_low w (p + 1) in let b = h.order.links in omega arith
