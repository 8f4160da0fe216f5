-- What a scan of the entries has passed, and what it comes to. Assumes nothing.
use mathlib.Core.Path.{◌≡◌}
use mathlib.Core.Bool.{Bool, true, false, not}
use mathlib.Core.List.{List}
use mathlib.Core.Logic.{◌⊎◌, ⊎_elim}
use Prim.Native.Nat.{ℕ, ◌+◌, ◌<◌, ◌≤◌}
use native.Mathlib.Omega.{arith}
use native.Mathlib.Nat.{eq-or-lt_of_le}
use borrow.Author.Tests.{lt-ltb, le-ltb}
use Rattle.model.specs.Logic.{when◌then◌else◌}
use Rattle.model.specs.Table.{devices_in, links_in, device_good, link_fits, ascends, link_good, bad_device, bad_link, entries_answer}
use Rattle.model.proofs.Basics.{first_at, first_none}

-- the first p devices and the first i links of a table with n and m of them are good
pub record Passed (t : List ℕ) (n m p i : ℕ) : Type 0 where
  pub devices_are : n ≡ devices_in t
  pub links_are : m ≡ links_in t
  pub few : p ≤ n
  pub few_links : i ≤ m
  pub devices : (k : ℕ) → k < p → device_good t k ≡ true
  pub links : (k : ℕ) → k < i → link_good t k ≡ true

-- one more
more : (f : ℕ → Bool) (n : ℕ) → ((k : ℕ) → k < n → f k ≡ true) → f n ≡ true → (k : ℕ) → k < n + 1 → f k ≡ true
more f n h e k l =
    let c : (k ≡ n) ⊎ (k < n) = eq-or-lt_of_le (omega arith) in
    ⊎_elim (λ z. rw z e) (λ (z : k < n). h k z) c

-- a link is good where it fits and ascends
pub good_link : (t : List ℕ) (i : ℕ) → link_fits t i ≡ true → ascends t i ≡ true → link_good t i ≡ true
unfolding link_good
good_link t i e f = rw e f

pub misfit : (t : List ℕ) (i : ℕ) → link_fits t i ≡ false → link_good t i ≡ false
unfolding link_good
misfit t i e = rw e

pub descends : (t : List ℕ) (i : ℕ) → link_fits t i ≡ true → ascends t i ≡ false → link_good t i ≡ false
unfolding link_good
descends t i e f = rw e f

module _ {t : List ℕ} {n m p i : ℕ} (h : Passed t n m p i) where
  pub pass_device : p < n → device_good t p ≡ true → Passed t n m (p + 1) i
  pass_device l e = record { devices_are = h.devices_are; links_are = h.links_are; few = omega arith; few_links = h.few_links; devices = more (device_good t) p h.devices e; links = h.links }

  pub pass_link : i < m → link_good t i ≡ true → Passed t n m p (i + 1)
  pass_link l e = record { devices_are = h.devices_are; links_are = h.links_are; few = h.few; few_links = omega arith; devices = h.devices; links = more (link_good t) i h.links e }

  -- ---- what the scan comes to
  pub stop_device : p < n → device_good t p ≡ false → record { number = 6; index = p } ≡ entries_answer t
  unfolding entries_answer bad_device when◌then◌else◌
  stop_device l e =
      let b : bad_device t ≡ p = first_at (λ k. not (device_good t k)) (devices_in t) p (λ k z. rw (h.devices k z)) (rw h.devices_are at l) (rw e) in
      rw (b, lt-ltb p (devices_in t) (rw h.devices_are at l))

  all_devices : n ≤ p → bad_device t ≡ devices_in t
  unfolding bad_device
  all_devices l = first_none (λ k. not (device_good t k)) (devices_in t) (λ k z. let y = h.devices_are in rw (h.devices k (omega arith)))

  pub stop_link : n ≤ p → i < m → link_good t i ≡ false → record { number = 7; index = i } ≡ entries_answer t
  unfolding entries_answer bad_link when◌then◌else◌
  stop_link d l e =
      let b : bad_link t ≡ i = first_at (λ k. not (link_good t k)) (links_in t) i (λ k z. rw (h.links k z)) (rw h.links_are at l) (rw e) in
      rw (all_devices d, le-ltb (devices_in t) (devices_in t) (omega arith), b, lt-ltb i (links_in t) (rw h.links_are at l))

  pub stop_end : n ≤ p → m ≤ i → record { number = 0; index = 0 } ≡ entries_answer t
  unfolding entries_answer bad_link when◌then◌else◌
  stop_end d l =
      let b : bad_link t ≡ links_in t = first_none (λ k. not (link_good t k)) (links_in t) (λ k z. let y = h.links_are in rw (h.links k (omega arith))) in
      rw (all_devices d, le-ltb (devices_in t) (devices_in t) (omega arith), b, le-ltb (links_in t) (links_in t) (omega arith))
