-- The answer to the two lists, test by test. Assumes nothing.
use mathlib.Core.Path.{◌≡◌, sym}
use Rattle.std.specs.Prelude.{Some, None}
use Rattle.std.specs.List.{find, range_with_len}
use Rattle.writer_lists.proofs.Searching.{found, not_found}
use mathlib.Core.Bool.{true, false, not}
use mathlib.Core.List.{List}
use Prim.Native.Nat.{ℕ, ◌<◌, ◌≤◌}
use mathlib.Core.Bool.{◌||◌}
use native.Mathlib.Omega.{arith}
use lib.ListN.{length}
use lib.Dec.{ltb}
use Rattle.std.specs.Int.{div_ceil}
use Rattle.std.proofs.lemmas.Grind.{common_steps}
use borrow.Author.Tests.{lt-ltb, le-ltb, le-leb, lt-leb}
use Rattle.model.specs.Limits.{DEVICES, LINKS}
use Rattle.model.specs.Logic.{when◌then◌else◌, first}
use Rattle.model.specs.Writing.{devices_given, links_given, counts_good, device_fits, link_taken, faulty_device, faulty_link, lists_answer}

-- ---- the limits
pub none : (n m : ℕ) → n < 1 → counts_good n m ≡ false
unfolding counts_good
none n m l = rw (lt-leb 1 n l)

pub many_devices : (n m : ℕ) → 1 ≤ n → DEVICES < n → counts_good n m ≡ false
unfolding counts_good
many_devices n m a l = rw (le-leb 1 n a, lt-leb n DEVICES l)

pub many_links : (n m : ℕ) → 1 ≤ n → n ≤ DEVICES → LINKS < m → counts_good n m ≡ false
unfolding counts_good
many_links n m a b l = rw (le-leb 1 n a, le-leb n DEVICES b, lt-leb m LINKS l)

pub counts_fit : (n m : ℕ) → 1 ≤ n → n ≤ DEVICES → m ≤ LINKS → counts_good n m ≡ true
unfolding counts_good
counts_fit n m a b l = rw (le-leb 1 n a, le-leb n DEVICES b, le-leb m LINKS l)

-- the test of the code
pub beyond : (n m : ℕ) → (ltb n 1 || ltb DEVICES n || ltb LINKS m) ≡ true → counts_good n m ≡ false
unfolding counts_good
beyond n m e = grind (arith, common_steps)

pub within : (n m : ℕ) → (ltb n 1 || ltb DEVICES n || ltb LINKS m) ≡ false → counts_good n m ≡ true
unfolding counts_good
within n m e = grind (arith, common_steps)

-- a last entry that is begun counts
pub devices_up : (devices : List ℕ) → div_ceil (length devices) 2 ≡ devices_given devices
unfolding devices_given
devices_up devices = omega arith

pub links_up : (links : List ℕ) → div_ceil (length links) 3 ≡ links_given links
unfolding links_given
links_up links = omega arith

module _ (devices links : List ℕ) where
  pub over : counts_good (devices_given devices) (links_given links) ≡ false → record { number = 4; index = 0 } ≡ lists_answer devices links
  unfolding lists_answer when◌then◌else◌
  over e = rw e

  -- past the limits, the searches tell
  module _ (counts : counts_good (devices_given devices) (links_given links) ≡ true) where
    pub bad_device_lem : (n p : ℕ) → n ≡ devices_given devices → find (λ k. not (device_fits devices k)) (range_with_len 0 n) ≡ Some p
        → record { number = 6; index = p } ≡ lists_answer devices links
    unfolding lists_answer faulty_device when◌then◌else◌
    bad_device_lem n p e f =
        let w = found (λ k. not (device_fits devices k)) (devices_given devices) p (rw e at f) in
        rw (counts, ← w.1, lt-ltb p (devices_given devices) w.0)

    module _ (n : ℕ) (e : n ≡ devices_given devices) (devices-pass : find (λ k. not (device_fits devices k)) (range_with_len 0 n) ≡ None) (m : ℕ) (d : m ≡ links_given links) where
      all_devices : first (λ k. not (device_fits devices k)) (devices_given devices) ≡ devices_given devices
      all_devices = sym (not_found (λ k. not (device_fits devices k)) (devices_given devices) (rw e at devices-pass))

      pub bad_link_lem : (i : ℕ) → find (λ k. not (link_taken n links k)) (range_with_len 0 m) ≡ Some i → record { number = 7; index = i } ≡ lists_answer devices links
      unfolding lists_answer faulty_device faulty_link when◌then◌else◌
      bad_link_lem i f =
          let w = found (λ k. not (link_taken (devices_given devices) links k)) (links_given links) i (rw (e, d) at f) in
          rw (counts, all_devices, le-ltb (devices_given devices) (devices_given devices) (omega arith), ← w.1, lt-ltb i (links_given links) w.0)

      pub good : find (λ k. not (link_taken n links k)) (range_with_len 0 m) ≡ None → record { number = 0; index = 0 } ≡ lists_answer devices links
      unfolding lists_answer faulty_device faulty_link when◌then◌else◌
      good f =
          let w = not_found (λ k. not (link_taken (devices_given devices) links k)) (links_given links) (rw (e, d) at f) in
          rw (counts, all_devices, le-ltb (devices_given devices) (devices_given devices) (omega arith), ← w, le-ltb (links_given links) (links_given links) (omega arith))
