-- What the loader takes, the writer turns into the same bytes, from its devices and its links in any order. Assumes nothing.
use mathlib.Core.Path.{◌≡◌, sym, ◌∙◌}
use mathlib.Core.Bool.{true}
use mathlib.Core.List.{List}
use mathlib.Core.Logic.{◌⊎◌, ⊎_elim}
use Prim.Native.Nat.{ℕ, zero, suc, ◌+◌, ◌*◌, ◌-◌, ◌/◌, ◌%◌, ◌<◌, ◌≤◌}
use native.Mathlib.Omega.{arith}
use native.Mathlib.Nat.{eq-or-lt_of_le}
use native.Mathlib.Decide.{dec_lt, ℕ_discrete}
use lib.ListN.{length, get_or, take, drop, length-drop}
use lib.Seq.{length-take-le, get_or-take, get_or-drop, ext_get_or}
use borrow.Author.Tests.{eqb-true, ne_eqb}
use Rattle.model.specs.Logic.{when◌then◌else◌, ◌or◌}
use Rattle.model.specs.Table.{Wiring, wiring_in, devices_in, links_in, device_byte, link_byte, mark_good, version_good, limits_good, length_good, ends_good, before, device_good, link_fits, ascends, link_good}
use Rattle.model.proofs.Basics.{few_devices_lem}
use Rattle.model.proofs.Logic.{tests}
use Rattle.model.specs.Writing.{devices_given, links_given, device_field, link_field, counts_good, device_fits, link_whole, pair, number, repeats, link_taken}
use Rattle.model.specs.Writing.{TOP, in_order, field_of, link_byte_at, table_of, written, write_of}
use Rattle.writer_laws.specs.Laws.{WhatItTakes, ItsOwn, TheOne}
use Rattle.writer_laws.specs.Same.{SameLink, Says, LinkIs, LinksAmong, SameWiring}
use Rattle.writer_laws.proofs.Ordering.{same_order, no_longer}
use Rattle.writer_laws.proofs.Taken.{Rules, limits, taken_rules, wiring_is}
use Rattle.writer_laws.proofs.Bytes.{SameBytes, SameTable, link_at, from_wiring, to_wiring}
use Rattle.writer_laws.proofs.Given.{Given, given_writes, digits, table_long, at_device, at_link}

less_of : (c s c' s' : ℕ) → s < 256 → s' < 256 → before c s c' s' ≡ true → 256 * c + s < 256 * c' + s'
unfolding before
less_of c s c' s' a b e = elim (dec_lt c c') [ yes l ↦ omega arith | no l ↦ (let z = (simp tests at e) (omega arith) in omega arith) ]

below_seven : (P : ℕ → Type 0) → P 0 → P 1 → P 2 → P 3 → P 4 → P 5 → P 6 → (x : ℕ) → x < 7 → P x
below_seven P a b c d e f g zero l = a
below_seven P a b c d e f g (suc zero) l = b
below_seven P a b c d e f g (suc (suc zero)) l = c
below_seven P a b c d e f g (suc (suc (suc zero))) l = d
below_seven P a b c d e f g (suc (suc (suc (suc zero)))) l = e
below_seven P a b c d e f g (suc (suc (suc (suc (suc zero))))) l = f
below_seven P a b c d e f g (suc (suc (suc (suc (suc (suc zero)))))) l = g
below_seven P a b c d e f g (suc (suc (suc (suc (suc (suc (suc x))))))) l = absurd (omega arith)

-- link k of a table as a number
pair_in : List ℕ → ℕ → ℕ
pair_in t k = 256 * link_byte t 0 k + link_byte t 1 k

listed : List ℕ → ℕ → ℕ
listed t k = 256 * pair_in t k + link_byte t 2 k

-- ---- a table that is taken
module _ (t : List ℕ) (h : Rules t) where
  long : length t ≡ 7 + 2 * devices_in t + 3 * links_in t
  unfolding length_good
  long = eqb-true (length t) (7 + 2 * devices_in t + 3 * links_in t) h.long

  record Bytes (k : ℕ) : Type 0 where
    consumer : link_byte t 0 k < devices_in t
    supplier : link_byte t 1 k < link_byte t 0 k
    flags : link_byte t 2 k ≤ 3
    byte0 : link_byte t 0 k < 256
    byte1 : link_byte t 1 k < 256
    byte2 : link_byte t 2 k < 256
    rises : ascends t k ≡ true

  bytes : (k : ℕ) → k < links_in t → Bytes k
  unfolding link_good link_fits ends_good
  bytes k l =
      let f = simp tests at (h.link k l) in
      let few = few_devices_lem (limits h).1.0 in
      record { consumer = f.0.0.0; supplier = f.0.0.1; flags = f.0.1; byte0 = omega arith; byte1 = omega arith; byte2 = omega arith; rises = f.1 }

  small : (k : ℕ) → k < links_in t → listed t k < TOP
  unfolding listed pair_in
  small k l = let b = bytes k l in omega arith

  next : (k : ℕ) → suc k < links_in t → pair_in t k < pair_in t (suc k)
  unfolding pair_in ascends
  next k l =
      let a = bytes k (omega arith) in
      let b = bytes (suc k) l in
      let e : suc k - 1 ≡ k = omega arith in
      less_of (link_byte t 0 k) (link_byte t 1 k) (link_byte t 0 (suc k)) (link_byte t 1 (suc k)) a.byte1 b.byte1 (rw (ne_eqb (suc k) 0 (λ z. omega arith), e) at b.rises)

  pairs_rise : (i j : ℕ) → i < j → j < links_in t → pair_in t i < pair_in t j
  pairs_rise i zero l b = absurd (omega arith)
  pairs_rise i (suc j) l b =
      let n = next j b in
      let c : (i ≡ j) ⊎ (i < j) = eq-or-lt_of_le (omega arith) in
      ⊎_elim (λ e. rw e n) (λ (q : i < j). let z = pairs_rise i j q (omega arith) in omega arith) c

  rise : (i j : ℕ) → i < j → j < links_in t → listed t i < listed t j
  unfolding listed
  rise i j l b = let z = pairs_rise i j l b in let p = bytes i (omega arith) in omega arith

  head_bytes : (get_or t 0 0 ≡ 0x54) × (get_or t 1 0 ≡ 0x57) × (get_or t 2 0 ≡ 0x42) × (get_or t 3 0 ≡ 1) × (get_or t 4 0 ≡ 0)
  unfolding mark_good version_good
  head_bytes = let m = simp tests at h.mark in let v = simp tests at h.version in (m.0, m.1.0, m.1.1, omega arith, omega arith)

  digit_listed : (k field : ℕ) → k < links_in t → field < 3 → field_of (listed t k) field ≡ link_byte t field k
  unfolding field_of listed pair_in when◌then◌else◌
  digit_listed k zero l f = let b = bytes k l in (digits (link_byte t 0 k) (link_byte t 1 k) (link_byte t 2 k) b.byte0 b.byte1 b.byte2).0
  digit_listed k (suc zero) l f = let b = bytes k l in (digits (link_byte t 0 k) (link_byte t 1 k) (link_byte t 2 k) b.byte0 b.byte1 b.byte2).1
  digit_listed k (suc (suc zero)) l f = let b = bytes k l in (digits (link_byte t 0 k) (link_byte t 1 k) (link_byte t 2 k) b.byte0 b.byte1 b.byte2).2
  digit_listed k (suc (suc (suc z))) l f = absurd (omega arith)

  -- ---- its own entries
  own : SameTable (take (2 * devices_in t) (drop 7 t)) (drop (7 + 2 * devices_in t) t) t
  unfolding pair pair_in
  own =
      let g = long in
      let d = length-drop 7 t in
      let e = length-drop (7 + 2 * devices_in t) t in
      let part : (x : ℕ) → x < 2 * devices_in t → get_or (take (2 * devices_in t) (drop 7 t)) x 0 ≡ get_or t (7 + x) 0 =
      λ x l. get_or-take (2 * devices_in t) (drop 7 t) x 0 l ∙ get_or-drop 7 t x 0 in
      let link : (field i : ℕ) → link_field (drop (7 + 2 * devices_in t) t) field i ≡ link_byte t field i =
      λ field i. let z : 7 + 2 * devices_in t + 3 * i + field ≡ 7 + 2 * devices_in t + (3 * i + field) = omega arith in rw z (get_or-drop (7 + 2 * devices_in t) t (3 * i + field) 0) in
      let same : (i : ℕ) → SameBytes (drop (7 + 2 * devices_in t) t) i t i = λ i. record { consumer = link 0 i; supplier = link 1 i; flags = link 2 i } in
      record {
        devices_whole = length-take-le (2 * devices_in t) (drop 7 t) (omega arith);
        links_whole = omega arith;
        parent = λ p l. let z : 7 + 2 * p + 0 ≡ 7 + (2 * p + 0) = omega arith in rw z (part (2 * p + 0) (omega arith));
        ignore = λ p l. let z : 7 + 2 * p + 1 ≡ 7 + (2 * p + 1) = omega arith in rw z (part (2 * p + 1) (omega arith));
        given = λ i l. (i, l, same i);
        listed = λ k l. (k, l, same k);
        once = λ i j l b q. let z = pairs_rise i j l b in let y = rw (link 0 i, link 1 i, link 0 j, link 1 j) at q in omega arith;
      }

  -- ---- given its devices, and its links in any order
  module _ (devices links : List ℕ) (s : SameTable devices links t) where
    devices_are_lem : devices_given devices ≡ devices_in t
    unfolding devices_given
    devices_are_lem = let l = s.devices_whole in omega arith

    links_are_lem : links_given links ≡ links_in t
    unfolding links_given
    links_are_lem = let l = s.links_whole in omega arith

    given_device : (p : ℕ) → p < devices_given devices → device_fits devices p ≡ true
    unfolding device_fits device_good
    given_device p l =
        let a = devices_are_lem in
        let g = s.devices_whole in
        let b : p < devices_in t = omega arith in
        let f = simp tests at (h.device p b) in
        rw (s.parent p b, s.ignore p b) (simp tests (omega arith, f))

    given_link : (i : ℕ) → i < links_given links → link_taken (devices_given devices) links i ≡ true
    unfolding link_taken link_whole ends_good repeats
    given_link i l =
        let a = links_are_lem in
        let w = s.given i (omega arith) in
        let b = bytes w.0 w.1 in
        let g = s.links_whole in
        let u = w.2 in
        rw (u.consumer, u.supplier, u.flags, devices_are_lem) (simp tests ((omega arith, ((b.consumer, b.supplier), b.flags)), λ j q e. s.once j i q (omega arith) e))

    given : Given devices links
    unfolding counts_good limits_good
    given = record { counts = rw (devices_are_lem, links_are_lem) h.limits; device = given_device; link = given_link }

    number_is : (i k : ℕ) → SameBytes links i t k → number links i ≡ listed t k
    unfolding number pair listed pair_in
    number_is i k u = rw (u.consumer, u.supplier, u.flags)

    sorted : (k : ℕ) → k < links_in t → in_order (number links) (links_given links) k ≡ listed t k
    sorted k l =
        rw links_are_lem
        (same_order (number links) (listed t) (links_in t) rise small
        (λ i b. let w = s.given i b in (w.0, w.1, number_is i w.0 w.2))
        (λ q b. let w = s.listed q b in (w.0, w.1, number_is w.0 q w.2))
        k l)

    head : (x : ℕ) → x < 7 → get_or (table_of devices links) x 0 ≡ get_or t x 0
    unfolding table_of
    head = let b = head_bytes in below_seven (λ x. get_or (table_of devices links) x 0 ≡ get_or t x 0) (sym b.0) (sym b.1) (sym b.2) (sym b.3) (sym b.4) devices_are_lem links_are_lem

    middle : (x : ℕ) → x < 2 * devices_in t → get_or (table_of devices links) (7 + x) 0 ≡ get_or t (7 + x) 0
    middle x l =
        let g = s.devices_whole in
        let field : (f : ℕ) → device_field devices f (x / 2) ≡ device_byte t f (x / 2) → x ≡ 2 * (x / 2) + f → get_or devices x 0 ≡ get_or t (7 + x) 0 =
        λ f e z. let y : 7 + 2 * (x / 2) + f ≡ 7 + x = omega arith in (rw (← z, y) at e) in
        at_device devices links x (omega arith)
        ∙ elim (ℕ_discrete (x % 2) 0) [ yes z ↦ field 0 (s.parent (x / 2) (omega arith)) (omega arith) | no z ↦ field 1 (s.ignore (x / 2) (omega arith)) (omega arith) ]

    tail : (x : ℕ) → x < 3 * links_in t → get_or (table_of devices links) (7 + (length devices + x)) 0 ≡ get_or t (7 + (length devices + x)) 0
    unfolding link_byte_at
    tail x l =
        let a = links_are_lem in
        let g = s.devices_whole in
        let e : 7 + (length devices + x) ≡ 7 + 2 * devices_in t + 3 * (x / 3) + x % 3 = omega arith in
        at_link devices links x (omega arith) ∙ (rw (sorted (x / 3) (omega arith)) (digit_listed (x / 3) (x % 3) (omega arith) (omega arith) ∙ (rw e)))

    pub same_table : table_of devices links ≡ t
    same_table =
        let a = links_are_lem in
        let g = s.devices_whole in
        let b = table_long devices links in
        let c = long in
        ext_get_or 0 (table_of devices links) t (omega arith)
        (λ x l.
        elim (dec_lt x 7) [
          | yes z ↦ head x z
          | no z ↦
              elim (dec_lt x (7 + length devices)) [
                | yes y ↦ (let e : x ≡ 7 + (x - 7) = omega arith in rw e (middle (x - 7) (omega arith)))
                | no y ↦ (let e : x ≡ 7 + (length devices + (x - 7 - length devices)) = omega arith in rw e (tail (x - 7 - length devices) (omega arith)))
              ]
        ])

    pub same_bytes : (buffer : List ℕ) → length t ≤ length buffer → write_of devices links buffer ≡ written t buffer
    same_bytes buffer l = rw same_table at (given_writes given buffer (rw same_table l))

pub what_it_takes : WhatItTakes
what_it_takes t devices links buffer e s l =
    let h = taken_rules t e in
    same_bytes t h devices links (from_wiring h (rw (wiring_is t e) at s)) buffer l

pub its_own : ItsOwn
its_own t e = let h = taken_rules t e in rw (wiring_is t e) (to_wiring h (own t h))

-- ---- the one
-- lists that say what one wiring says, say what another with the same devices and links says
says_same : {devices links : List ℕ} {v w : Wiring} → Says devices links v → SameWiring v w → v.m ≡ w.m → Says devices links w
says_same s e many =
    let c = e.count in
    record {
      devices_whole = (let z = s.devices_whole in omega arith);
      links_whole = (let z = s.links_whole in omega arith);
      parent = λ p l. s.parent p (omega arith) ∙ e.parent p (omega arith);
      ignore = λ p l. s.ignore p (omega arith) ∙ e.ignore p (omega arith);
      given = λ i l. let a = s.given i (omega arith) in let b = e.there a.0 a.1 in (b.0, b.1, join a.2 b.2);
      listed = λ k l. let b = e.back k l in let a = s.listed b.0 b.1 in (a.0, (let z = a.1 in omega arith), join a.2 (turn b.2));
      once = λ i j l b. s.once i j l (omega arith);
    }
  where
    join : {links : List ℕ} {i k j : ℕ} {v w : Wiring} → SameLink links i v k → LinkIs v k w j → SameLink links i w j
    join a b = record { consumer = a.consumer ∙ b.consumer; supplier = a.supplier ∙ b.supplier; flags = a.flags ∙ b.flags }

    turn : {i k : ℕ} {v w : Wiring} → LinkIs v i w k → LinkIs w k v i
    turn a = record { consumer = sym a.consumer; supplier = sym a.supplier; flags = sym a.flags }

-- where the links of one table are among those of another, they are no more
no_more : (t u : List ℕ) → Rules t → Rules u → LinksAmong (wiring_in t) (wiring_in u) → links_in t ≤ links_in u
unfolding wiring_in listed pair_in
no_more t u g h among =
    no_longer (listed t) (listed u) (links_in t) (links_in u) (rise t g) (rise u h)
    (λ i l.
    let w = among i l in
    let a = w.2 in (
      w.0,
      w.1,
      rw (
        ← link_at g 0 i l,
        ← link_at g 1 i l,
        ← link_at g 2 i l,
        ← link_at h 0 w.0 w.1,
        ← link_at h 1 w.0 w.1,
        ← link_at h 2 w.0 w.1,
        a.consumer,
        a.supplier,
        a.flags,
      ),
    ))

as_many : (t u : List ℕ) → links_in t ≡ links_in u → (wiring_in t).m ≡ (wiring_in u).m
unfolding wiring_in
as_many t u e = e

pub the_one : TheOne
the_one t u a b e =
    let g = taken_rules t a in
    let h = taken_rules u b in
    let s = rw (wiring_is t a, wiring_is u b) at e in
    let x = no_more t u g h s.there in
    let y = no_more u t h g s.back in
    let o = to_wiring g (own t g) in
    let z = says_same o s (as_many t u (omega arith)) in
    sym (same_table t g _ _ (from_wiring g o)) ∙ same_table u h _ _ (from_wiring h z)
