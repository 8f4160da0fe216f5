-- What is printed of a table that is taken, the writer turns into the same table. Assumes nothing.
use mathlib.Core.Path.{◌≡◌, refl, ◌∙◌, ap}
use mathlib.Core.Bool.{Bool, true, false}
use mathlib.Core.List.{List, [], ◌∷◌, ◌++◌, append-nil}
use Prim.Native.Nat.{ℕ, ◌+◌, ◌*◌, ◌<◌}
use native.Mathlib.Omega.{arith}
use native.Mathlib.Decide.{ℕ_discrete}
use lib.ListN.{length, get_or, take, drop, length-drop}
use lib.Seq.{get_or-drop, take_all}
use borrow.Author.Tests.{eqb-true}
use Rattle.model.specs.Limits.{NONE}
use Rattle.model.specs.Logic.{when◌then◌else◌, all}
use Rattle.model.specs.Table.{devices_in, links_in, device_byte, link_byte, parent_good, ends_good, device_good, link_fits, link_good, length_good}
use Rattle.model.proofs.Basics.{few_devices_lem}
use Rattle.model.proofs.Logic.{tests, all_iff}
use Rattle.replay_text.specs.Text.{ascii, digits_up_to, decimal}
use Rattle.writer_laws.proofs.Taken.{Rules, limits, taken_rules}
use Rattle.writer_laws.proofs.Kept.{what_it_takes, its_own}
use Rattle.std.specs.Prelude.{Result, Ok}
use Rattle.list_lines.specs.declared.entries.Entry.{Entry}
use Rattle.list_lines.specs.declared.entries.Fault.{Fault}
use Rattle.list_lines.specs.declared.entries.Entry.TheVariants.{Part, Link}
use Rattle.list_lines.specs.Lines.{entry_in}
use Rattle.list_print.specs.Lines.{parent_text, part_words, part_text, link_words, link_text}
use Rattle.list_print.proofs.Inverse.{part_back, link_back}
use Rattle.list_text.specs.Texts.{part_bytes, link_bytes, bytes_of, gathered, fault_from, fault_in}
use Rattle.list_laws.specs.Printed.{joined, text_of, RoundTrip}
use Rattle.list_laws.proofs.Lines.{plain, plain_both, gathered_joined, faultless, end_gathered, end_faultless}
use Rattle.list_laws.proofs.Bytes.{joined_same, joined_none, by_two, by_three}

-- ---- the texts of numbers below 256 have no line feed: by computation over all of them
numbers : all (λ x. plain (decimal x)) 256 ≡ true
unfolding all plain when◌then◌else◌ decimal digits_up_to
numbers = refl

number_plain : (x : ℕ) → x < 256 → plain (decimal x) ≡ true
number_plain x l = (all_iff (λ x. plain (decimal x)) 256).0 numbers x l

parents : all (λ x. plain (parent_text x)) 256 ≡ true
unfolding all plain when◌then◌else◌ decimal digits_up_to parent_text ascii
parents = refl

parent_plain : (x : ℕ) → x < 256 → plain (parent_text x) ≡ true
parent_plain x l = (all_iff (λ x. plain (parent_text x)) 256).0 parents x l

part_front : plain (ascii "part ") ≡ true
unfolding plain ascii
part_front = refl

link_front : plain (ascii "link ") ≡ true
unfolding plain ascii
link_front = refl

blank : plain (ascii " ") ≡ true
unfolding plain ascii
blank = refl

part_plain : (a b : ℕ) → a < 256 → b < 256 → plain (part_words a b) ≡ true
unfolding part_words
part_plain a b h g = plain_both _ (decimal b) (plain_both _ (ascii " ") (plain_both (ascii "part ") (parent_text a) part_front (parent_plain a h)) blank) (number_plain b g)

link_plain : (a b c : ℕ) → a < 256 → b < 256 → c < 256 → plain (link_words a b c) ≡ true
unfolding link_words
link_plain a b c h g f =
    let one = plain_both (ascii "link ") (decimal a) link_front (number_plain a h) in
    let two = plain_both _ (decimal b) (plain_both _ (ascii " ") one blank) (number_plain b g) in
    plain_both _ (decimal c) (plain_both _ (ascii " ") two blank) (number_plain c f)

-- ---- a table that is taken
module _ (t : List ℕ) (h : Rules t) where
  long : length t ≡ 7 + 2 * devices_in t + 3 * links_in t
  unfolding length_good
  long = eqb-true (length t) (7 + 2 * devices_in t + 3 * links_in t) h.long

  -- its fields are bytes
  record DeviceBytes (p : ℕ) : Type 0 where
    parent : device_byte t 0 p < 256
    flags : device_byte t 1 p < 256

  record LinkBytes (i : ℕ) : Type 0 where
    consumer : link_byte t 0 i < 256
    supplier : link_byte t 1 i < 256
    flags : link_byte t 2 i < 256

  device_bytes : (p : ℕ) → p < devices_in t → DeviceBytes p
  unfolding device_good parent_good
  device_bytes p l =
      let f = simp tests at (h.device p l) in
      let few = few_devices_lem (limits h).1.0 in
      record {
        parent = elim (ℕ_discrete (device_byte t 0 p) NONE) [ yes e ↦ omega arith | no n ↦ (let z = f.0 n in omega arith) ];
        flags = omega arith;
      }

  link_bytes_lem : (i : ℕ) → i < links_in t → LinkBytes i
  unfolding link_good link_fits ends_good
  link_bytes_lem i l =
      let f = simp tests at (h.link i l) in
      let few = few_devices_lem (limits h).1.0 in
      record { consumer = omega arith; supplier = omega arith; flags = omega arith }

  -- ---- its entries, as its text says them
  abbrev part : ℕ → Result Entry Fault
  part p = Ok (Part (device_byte t 0 p) (device_byte t 1 p))

  abbrev link : ℕ → Result Entry Fault
  link i = Ok (Link (link_byte t 0 i) (link_byte t 1 i) (link_byte t 2 i))

  abbrev part_line : ℕ → List ℕ
  part_line p = part_words (device_byte t 0 p) (device_byte t 1 p)

  abbrev link_line : ℕ → List ℕ
  link_line i = link_words (link_byte t 0 i) (link_byte t 1 i) (link_byte t 2 i)

  parts_plain : (p : ℕ) → p < devices_in t → plain (part_line p) ≡ true
  parts_plain p l = let b = device_bytes p l in part_plain _ _ b.parent b.flags

  parts_say : (p : ℕ) → p < devices_in t → entry_in (part_line p) ≡ part p
  parts_say p l = let b = device_bytes p l in part_back _ _ b.parent b.flags

  links_plain : (i : ℕ) → i < links_in t → plain (link_line i) ≡ true
  links_plain i l = let b = link_bytes_lem i l in link_plain _ _ _ b.consumer b.supplier b.flags

  links_say : (i : ℕ) → i < links_in t → entry_in (link_line i) ≡ link i
  links_say i l = let b = link_bytes_lem i l in link_back _ _ _ b.consumer b.supplier b.flags

  -- the two halves of the text
  abbrev upper : List ℕ
  upper = joined (λ p. part_line p ++ 10 ∷ []) (devices_in t)

  abbrev lower : List ℕ
  lower = joined (λ i. link_line i ++ 10 ∷ []) (links_in t)

  text_is : text_of t ≡ upper ++ (lower ++ [])
  unfolding text_of part_text link_text ascii
  text_is = rw (append-nil lower)

  text_gathered : (sort : Bool) → gathered sort (text_of t)
      ≡ joined (λ p. bytes_of sort (part p)) (devices_in t) ++ (joined (λ i. bytes_of sort (link i)) (links_in t) ++ [])
  text_gathered sort =
      rw text_is
      (gathered_joined sort part_line part (devices_in t) (lower ++ []) parts_plain parts_say
      ∙ ap (λ (x : List ℕ). joined (λ p. bytes_of sort (part p)) (devices_in t) ++ x)
      (gathered_joined sort link_line link (links_in t) [] links_plain links_say
      ∙ ap (λ (x : List ℕ). joined (λ i. bytes_of sort (link i)) (links_in t) ++ x) (end_gathered sort)))

  -- ---- the lists that the writer is given are the table's own
  own_device : (p : ℕ) → bytes_of false (part p) ≡ get_or (drop 7 t) (2 * p) 0 ∷ get_or (drop 7 t) (2 * p + 1) 0 ∷ []
  unfolding bytes_of part_bytes
  own_device p =
      let e : 7 + 2 * p + 1 ≡ 7 + (2 * p + 1) = omega arith in
      let f : 7 + 2 * p + 0 ≡ 7 + 2 * p = omega arith in
      rw (get_or-drop 7 t (2 * p) 0, get_or-drop 7 t (2 * p + 1) 0, e, f)

  abbrev at : ℕ
  at = 7 + 2 * devices_in t

  own_link : (i : ℕ) → bytes_of true (link i) ≡ get_or (drop at t) (3 * i) 0 ∷ get_or (drop at t) (3 * i + 1) 0 ∷ get_or (drop at t) (3 * i + 2) 0 ∷ []
  unfolding bytes_of link_bytes
  own_link i =
      let e : at + 3 * i + 2 ≡ at + (3 * i + 2) = omega arith in
      let f : at + 3 * i + 1 ≡ at + (3 * i + 1) = omega arith in
      let g : at + 3 * i + 0 ≡ at + 3 * i = omega arith in
      rw (get_or-drop at t (3 * i) 0, get_or-drop at t (3 * i + 1) 0, get_or-drop at t (3 * i + 2) 0, e, f, g)

  -- a link is no device, and a device no link
  links_apart : joined (λ i. bytes_of false (link i)) (links_in t) ≡ []
  unfolding bytes_of part_bytes
  links_apart = joined_none (links_in t)

  parts_apart : joined (λ p. bytes_of true (part p)) (devices_in t) ≡ []
  unfolding bytes_of link_bytes
  parts_apart = joined_none (devices_in t)

  devices_back : gathered false (text_of t) ≡ take (2 * devices_in t) (drop 7 t)
  devices_back =
      let g = long in
      let d = length-drop 7 t in
      rw (text_gathered false, links_apart, append-nil)
      (joined_same _ _ (devices_in t) (λ p l. own_device p) ∙ by_two (drop 7 t) (devices_in t) (omega arith))

  links_back : gathered true (text_of t) ≡ drop at t
  links_back =
      let g = long in
      let d = length-drop at t in
      rw (text_gathered true, parts_apart, append-nil)
      (joined_same _ _ (links_in t) (λ i l. own_link i) ∙ by_three (drop at t) (links_in t) (omega arith) ∙ take_all (3 * links_in t) (drop at t) (omega arith))

  no_fault : fault_in (text_of t) ≡ Ok tt
  unfolding fault_in fault_from
  no_fault =
      rw text_is
      (faultless part_line part (devices_in t) (lower ++ []) 1 parts_plain parts_say (λ k i es. refl)
      (λ j. faultless link_line link (links_in t) [] j links_plain links_say (λ k i es. refl) end_faultless))

pub round_trip : RoundTrip
round_trip t buffer e room =
    let h = taken_rules t e in
    record { lines = no_fault t h; table = what_it_takes t _ _ buffer e (rw (devices_back t h, links_back t h) (its_own t e)) room }
