-- Parts and links that pass the writer's tests, and the table made of them. Assumes nothing.
use mathlib.Core.Path.{◌≡◌, refl, sym, ◌∙◌, ap}
use mathlib.Core.Bool.{true, not}
use mathlib.Core.List.{List, ◌++◌}
use Prim.Native.Nat.{ℕ, ◌+◌, ◌*◌, ◌-◌, ◌/◌, ◌%◌, ◌<◌, ◌≤◌}
use native.Mathlib.Omega.{arith}
use native.Mathlib.Decide.{dec_lt, ℕ_discrete}
use lib.ListN.{length, get_or, length-append, get_or-append}
use lib.Seq.{get_or-append-add}
use lib.Dec.{ltb, eqb}
use borrow.Author.Tests.{ltb-false, le-ltb, not-true, not-false, eq-eqb, eqb-true}
use Rattle.model.specs.Limits.{DEVICES, LINKS}
use Rattle.model.specs.Logic.{when◌then◌else◌}
use Rattle.model.specs.Table.{TableAnswer, parent_good, ends_good}
use Rattle.model.proofs.Basics.{by_if, never, few_devices_lem}
use Rattle.model.proofs.Logic.{tests}
use Rattle.model.proofs.Counting.{at_column, length_column}
use Rattle.model.specs.Writing.{devices_given, links_given, device_field, link_field, counts_good, device_fits, link_whole, pair, number, repeats, link_taken, faulty_device, faulty_link}
use Rattle.model.specs.Writing.{TOP, in_order, header, field_of, link_byte_at, sorted_links, table_of, lists_answer, Writing, refused, written, write_of}
use Rattle.writer_laws.specs.Laws.{NothingElse}
use Rattle.writer_laws.proofs.Taken.{all_good, good_all}

pub record Given (devices links : List ℕ) : Type 0 where
  pub counts : counts_good (devices_given devices) (links_given links) ≡ true
  pub device : (p : ℕ) → p < devices_given devices → device_fits devices p ≡ true
  pub link : (i : ℕ) → i < links_given links → link_taken (devices_given devices) links i ≡ true

-- ---- the lists are answered 0 exactly there
pub given_good : {devices links : List ℕ} → Given devices links → lists_answer devices links ≡ record { number = 0; index = 0 }
unfolding lists_answer faulty_device faulty_link when◌then◌else◌
given_good {devices} {links} h =
    let n = devices_given devices in
    let m = links_given links in
    rw (
      h.counts,
      good_all (device_fits devices) n h.device,
      good_all (link_taken n links) m h.link,
      le-ltb n n (omega arith),
      le-ltb m m (omega arith),
    )

pub good_given : (devices links : List ℕ) → (lists_answer devices links).number ≡ 0 → Given devices links
unfolding lists_answer faulty_device faulty_link
good_given devices links =
    by_if Facts _ _ _ (λ e z. absurd (omega arith))
    (λ c. by_if Facts _ _ _ (λ e z. absurd (omega arith))
    (λ d. by_if Facts _ _ _ (λ e z. absurd (omega arith))
    (λ k z.
    record {
      counts = not-false _ c;
      device = all_good (device_fits devices) _ (ltb-false _ _ d);
      link = all_good (link_taken (devices_given devices) links) _ (ltb-false _ _ k);
    })))
  where
    Facts : TableAnswer → Type 0
    Facts a = a.number ≡ 0 → Given devices links

-- ---- and where there is room, the table is written
pub given_writes : {devices links : List ℕ} → Given devices links → (buffer : List ℕ) → length (table_of devices links) ≤ length buffer
    → write_of devices links buffer ≡ written (table_of devices links) buffer
unfolding write_of when◌then◌else◌
given_writes {devices} {links} h buffer l = rw (given_good h, le-ltb (length buffer) (length (table_of devices links)) l)

pub writes_given : (devices links buffer : List ℕ) → (write_of devices links buffer).answer.number ≡ 0
    → Given devices links × (length (table_of devices links) ≤ length buffer)
unfolding write_of
writes_given devices links buffer =
    by_if Facts (not (eqb (lists_answer devices links).number 0)) (refused (lists_answer devices links) buffer) _
    (λ e z. never (eq-eqb _ 0 z) (not-true _ e))
    (λ c. by_if Facts (ltb (length buffer) (length (table_of devices links))) _ (written (table_of devices links) buffer) (λ e z. absurd (omega arith))
    (λ r z. (good_given devices links (eqb-true _ 0 (not-false _ c)), ltb-false _ _ r)))
  where
    Facts : Writing → Type 0
    Facts w = w.answer.number ≡ 0 → Given devices links × (length (table_of devices links) ≤ length buffer)

pub nothing_else : NothingElse
unfolding write_of
nothing_else devices links buffer = by_if Same _ _ _ (λ e z. refl) (λ e. by_if Same _ _ _ (λ e z. refl) (λ e z. absurd (z refl)))
  where
    Same : Writing → Type 0
    Same w = (w.answer.number ≡ 0 → ⊥) → w.buffer ≡ buffer

-- ---- what the tests tell of one entry
pub record DeviceFacts (devices : List ℕ) (p : ℕ) : Type 0 where
  pub whole : 2 * p + 1 < length devices
  pub parent : parent_good p (device_field devices 0 p) ≡ true
  pub flags : device_field devices 1 p ≤ 1

pub record LinkFacts (n : ℕ) (links : List ℕ) (i : ℕ) : Type 0 where
  pub whole : 3 * i + 2 < length links
  pub consumer : link_field links 0 i < n
  pub supplier : link_field links 1 i < link_field links 0 i
  pub flags : link_field links 2 i ≤ 3

-- a link's number has its bytes as digits
pub digits : (c s f : ℕ) → c < 256 → s < 256 → f < 256
    → let x = 256 * (256 * c + s) + f in (x / 65536 % 256 ≡ c) × (x / 256 % 256 ≡ s) × (x % 256 ≡ f)
digits c s f hc hs hf = (omega arith, omega arith, omega arith)

pub same_pair : (x y f g : ℕ) → f < 256 → g < 256 → 256 * x + f ≡ 256 * y + g → x ≡ y
same_pair x y f g a b e = omega arith

module _ {devices links : List ℕ} (h : Given devices links) where
  pub limits : (1 ≤ devices_given devices) × ((devices_given devices ≤ DEVICES) × (links_given links ≤ LINKS))
  unfolding counts_good
  limits = simp tests at h.counts

  pub device_facts : (p : ℕ) → p < devices_given devices → DeviceFacts devices p
  unfolding device_fits
  device_facts p l = let f = simp tests at (h.device p l) in record { whole = f.0; parent = f.1.0; flags = f.1.1 }

  pub link_facts : (i : ℕ) → i < links_given links → LinkFacts (devices_given devices) links i
  unfolding link_taken link_whole ends_good
  link_facts i l = let f = simp tests at (h.link i l) in record { whole = f.0.0; consumer = f.0.1.0.0; supplier = f.0.1.0.1; flags = f.0.1.1 }

  -- ---- the lists are whole entries
  pub devices_whole_lem : length devices ≡ 2 * devices_given devices
  unfolding devices_given
  devices_whole_lem = let z = limits.0 in let y = (device_facts (devices_given devices - 1) (omega arith)).whole in omega arith

  pub links_whole_lem : length links ≡ 3 * links_given links
  unfolding links_given
  links_whole_lem =
      elim (ℕ_discrete (links_given links) 0) [
        | yes z ↦ omega arith
        | no z ↦ let y = (link_facts (links_given links - 1) (omega arith)).whole in omega arith
      ]

  -- ---- the numbers of the links
  pub once : (i j : ℕ) → i < j → j < links_given links → pair links i ≡ pair links j → ⊥
  unfolding link_taken repeats
  once i j l b e =
      let f = simp tests at (h.link j b) in
      f.1 i l e

  pub link_bytes_lem : (i : ℕ) → i < links_given links → (link_field links 0 i < 256) × (link_field links 1 i < 256) × (link_field links 2 i < 256)
  link_bytes_lem i l = let f = link_facts i l in let few = few_devices_lem limits.1.0 in (omega arith, omega arith, omega arith)

  pub number_small : (i : ℕ) → i < links_given links → number links i < TOP
  unfolding number pair
  number_small i l = let f = link_bytes_lem i l in omega arith

  pub number_pair : (i j : ℕ) → i < links_given links → j < links_given links → number links i ≡ number links j → pair links i ≡ pair links j
  unfolding number
  number_pair i j a b e = same_pair (pair links i) (pair links j) (link_field links 2 i) (link_field links 2 j) (link_bytes_lem i a).2 (link_bytes_lem j b).2 e

  pub numbers_differ : (i j : ℕ) → i < links_given links → j < links_given links → number links i ≡ number links j → i ≡ j
  numbers_differ i j a b e =
      let p = number_pair i j a b e in
      elim (dec_lt i j) [
        | yes l ↦ absurd (once i j l b p)
        | no l ↦ elim (dec_lt j i) [ yes r ↦ absurd (once j i r a (sym p)) | no r ↦ omega arith ]
      ]

-- ---- the bytes of the table
module _ (devices links : List ℕ) where
  pub table_long : length (table_of devices links) ≡ 7 + (length devices + 3 * links_given links)
  unfolding table_of sorted_links
  table_long =
      length-append (header (devices_given devices) (links_given links)) (devices ++ sorted_links links)
      ∙ ap (λ (x : ℕ). 7 + x) (length-append devices (sorted_links links) ∙ ap (λ (x : ℕ). length devices + x) (length_column (link_byte_at links) (3 * links_given links)))

  pub at_device : (x : ℕ) → x < length devices → get_or (table_of devices links) (7 + x) 0 ≡ get_or devices x 0
  unfolding table_of
  at_device x l = get_or-append-add (header (devices_given devices) (links_given links)) (devices ++ sorted_links links) x 0 ∙ get_or-append devices (sorted_links links) 0 x l

  pub at_link : (x : ℕ) → x < 3 * links_given links → get_or (table_of devices links) (7 + (length devices + x)) 0 ≡ link_byte_at links x
  unfolding table_of sorted_links
  at_link x l =
      get_or-append-add (header (devices_given devices) (links_given links)) (devices ++ sorted_links links) (length devices + x) 0
      ∙ (get_or-append-add devices (sorted_links links) x 0 ∙ at_column (link_byte_at links) (3 * links_given links) x l)

-- byte 3 i + field of the sorted links
pub sorted_field : (links : List ℕ) (i field : ℕ) → field < 3 → link_byte_at links (3 * i + field) ≡ field_of (in_order (number links) (links_given links) i) field
unfolding link_byte_at
sorted_field links i field l =
    let a : (3 * i + field) / 3 ≡ i = omega arith in
    let b : (3 * i + field) % 3 ≡ field = omega arith in
    rw (a, b)
