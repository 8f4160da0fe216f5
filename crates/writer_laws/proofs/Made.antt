-- What the writer writes, the loader takes, with the same devices and the same links. Assumes nothing.
use mathlib.Core.Path.{◌≡◌, refl, sym, ◌∙◌}
use mathlib.Core.Bool.{true}
use mathlib.Core.List.{List}
use Prim.Native.Nat.{ℕ, zero, suc, ◌+◌, ◌*◌, ◌-◌, ◌<◌}
use native.Mathlib.Omega.{arith}
use native.Mathlib.Decide.{dec_lt}
use lib.ListN.{length}
use borrow.Author.Tests.{eq-eqb, ne_eqb}
use Rattle.model.specs.Logic.{when◌then◌else◌, ◌and◌, ◌or◌}
use Rattle.model.specs.Table.{devices_in, links_in, device_byte, link_byte, mark_good, version_good, limits_good, length_good, ends_good, before, device_good, link_fits, ascends, link_good}
use Rattle.model.proofs.Logic.{tests}
use Rattle.model.specs.Writing.{devices_given, links_given, device_field, link_field, counts_good, pair, number, in_order, field_of, table_of}
use Rattle.writer_laws.specs.Laws.{WhatItWrites}
use Rattle.writer_laws.proofs.Ordering.{stands, ascend, found}
use Rattle.writer_laws.proofs.Taken.{Rules, load_taken, wiring_is}
use Rattle.writer_laws.proofs.Bytes.{SameBytes, SameTable, to_wiring}
use Rattle.writer_laws.proofs.Given.{Given, writes_given, given_writes, device_facts, link_facts, devices_whole_lem, links_whole_lem, link_bytes_lem, number_small, numbers_differ}
use Rattle.writer_laws.proofs.Given.{once, digits, table_long, at_device, at_link, sorted_field}

before_of : (c s c' s' : ℕ) → s < 256 → s' < 256 → 256 * c + s < 256 * c' + s' → before c s c' s' ≡ true
unfolding before
before_of c s c' s' a b l = simp tests (λ h. (omega arith, omega arith))

apart : (x y f g : ℕ) → f < 256 → g < 256 → 256 * x + f < 256 * y + g → (x ≡ y → ⊥) → x < y
apart x y f g a b l ne = elim (dec_lt x y) [ yes z ↦ z | no z ↦ elim (dec_lt y x) [ yes q ↦ absurd (omega arith) | no q ↦ absurd (ne (omega arith)) ] ]

pub devices_are_lem : (devices links : List ℕ) → devices_in (table_of devices links) ≡ devices_given devices
unfolding table_of
devices_are_lem devices links = refl

pub links_are_lem : (devices links : List ℕ) → links_in (table_of devices links) ≡ links_given links
unfolding table_of
links_are_lem devices links = refl

module _ {devices links : List ℕ} (h : Given devices links) where
  device_byte_lem : (field p : ℕ) → field < 2 → p < devices_given devices → device_byte (table_of devices links) field p ≡ device_field devices field p
  device_byte_lem field p f l =
      let w = devices_whole_lem h in
      let e : 7 + 2 * p + field ≡ 7 + (2 * p + field) = omega arith in
      rw e (at_device devices links (2 * p + field) (omega arith))

  link_byte_lem : (field k : ℕ) → field < 3 → k < links_given links → link_byte (table_of devices links) field k ≡ field_of (in_order (number links) (links_given links) k) field
  link_byte_lem field k f l =
      let w = devices_whole_lem h in
      let d = devices_are_lem devices links in
      let e : 7 + 2 * devices_in (table_of devices links) + 3 * k + field ≡ 7 + (length devices + (3 * k + field)) = omega arith in
      rw e (at_link devices links (3 * k + field) (omega arith) ∙ sorted_field links k field f)

  -- a link that stands at place k by its number stands there with all its bytes
  same_link : (i k : ℕ) → i < links_given links → k < links_given links → number links i ≡ in_order (number links) (links_given links) k → SameBytes links i (table_of devices links) k
  unfolding field_of number pair when◌then◌else◌
  same_link i k a b e =
      let z = link_bytes_lem h i a in
      let d = digits (link_field links 0 i) (link_field links 1 i) (link_field links 2 i) z.0 z.1 z.2 in
      record {
        consumer = sym (link_byte_lem 0 k (omega arith) b ∙ (rw (← e) d.0));
        supplier = sym (link_byte_lem 1 k (omega arith) b ∙ (rw (← e) d.1));
        flags = sym (link_byte_lem 2 k (omega arith) b ∙ (rw (← e) d.2));
      }

  stood : (k : ℕ) → k < links_given links → (i : ℕ) × (i < links_given links) × (number links i ≡ in_order (number links) (links_given links) k)
  stood = stands (number links) (links_given links) (number_small h) (numbers_differ h)

  fits : (k : ℕ) → k < links_given links → link_fits (table_of devices links) k ≡ true
  unfolding link_fits ends_good
  fits k l =
      let w = stood k l in
      let s = same_link w.0 k w.1 l w.2 in
      let f = link_facts h w.0 w.1 in
      let d = devices_are_lem devices links in
      rw (← s.consumer, ← s.supplier, ← s.flags, d) (simp tests ((f.consumer, f.supplier), f.flags))

  -- two links stand in the order of their numbers
  in_order_lem : (i j : ℕ) → i < links_given links → j < links_given links → number links i < number links j
      → before (link_field links 0 i) (link_field links 1 i) (link_field links 0 j) (link_field links 1 j) ≡ true
  unfolding number pair
  in_order_lem i j a b l =
      let y = link_bytes_lem h i a in
      let z = link_bytes_lem h j b in
      before_of (link_field links 0 i) (link_field links 1 i) (link_field links 0 j) (link_field links 1 j) y.1 z.1
      (apart (pair links i) (pair links j) (link_field links 2 i) (link_field links 2 j) y.2 z.2 l
      (λ e.
      elim (dec_lt i j) [
        | yes q ↦ once h i j q b e
        | no q ↦ elim (dec_lt j i) [ yes r ↦ once h j i r a (sym e) | no r ↦ (let x : i ≡ j = omega arith in let l' = rw x at l in omega arith) ]
      ]))

  rises : (k : ℕ) → k < links_given links → ascends (table_of devices links) k ≡ true
  unfolding ascends
  rises zero l = refl
  rises (suc k) l =
      let v = stood k (omega arith) in
      let w = stood (suc k) l in
      let s = same_link v.0 k v.1 (omega arith) v.2 in
      let r = same_link w.0 (suc k) w.1 l w.2 in
      let a = ascend (number links) (links_given links) (number_small h) (numbers_differ h) k l in
      let e : suc k - 1 ≡ k = omega arith in
      rw (ne_eqb (suc k) 0 (λ z. omega arith), e, ← s.consumer, ← s.supplier, ← r.consumer, ← r.supplier) (in_order_lem v.0 w.0 v.1 w.1 (rw (v.2, w.2) a))

  links_good : (k : ℕ) → k < links_given links → link_good (table_of devices links) k ≡ true
  unfolding link_good
  links_good k l = rw (fits k l) (rises k l)

  devices_good : (p : ℕ) → p < devices_given devices → device_good (table_of devices links) p ≡ true
  unfolding device_good
  devices_good p l = let f = device_facts h p l in rw (device_byte_lem 0 p (omega arith) l, device_byte_lem 1 p (omega arith) l) (simp tests (f.parent, f.flags))

  exact : length_good (table_of devices links) ≡ true
  unfolding length_good
  exact =
      let t = table_long devices links in
      let w = devices_whole_lem h in
      let d = devices_are_lem devices links in
      let e = links_are_lem devices links in
      eq-eqb (length (table_of devices links)) (7 + 2 * devices_in (table_of devices links) + 3 * links_in (table_of devices links)) (omega arith)

  pub made_taken : Rules (table_of devices links)
  unfolding mark_good version_good limits_good counts_good table_of
  made_taken =
      let t = table_long devices links in
      record {
        seven = omega arith;
        mark = refl;
        version = refl;
        limits = h.counts;
        long = exact;
        device = devices_good;
        link = links_good;
      }

  pub made_same : SameTable devices links (table_of devices links)
  unfolding table_of
  made_same =
      record {
        devices_whole = devices_whole_lem h;
        links_whole = links_whole_lem h;
        parent = λ p l. sym (device_byte_lem 0 p (omega arith) l);
        ignore = λ p l. sym (device_byte_lem 1 p (omega arith) l);
        given = λ i l. let w = found (number links) (links_given links) (number_small h) (numbers_differ h) i l in (w.0, w.1, same_link i w.0 l w.1 w.2);
        listed = λ k l. let w = stood k l in (w.0, w.1, same_link w.0 k w.1 l w.2);
        once = once h;
      }

pub what_it_writes : WhatItWrites
what_it_writes devices links buffer e =
    let w = writes_given devices links buffer e in
    let h = made_taken w.0 in
    let t = load_taken h in
    record {
      table = table_of devices links;
      room = w.1;
      written = given_writes w.0 buffer w.1;
      taken = t;
      same = rw (wiring_is (table_of devices links) t) (to_wiring h (made_same w.0));
    }
