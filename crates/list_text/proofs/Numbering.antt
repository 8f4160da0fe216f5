-- The numbers of lines: what is left of the text, counted on, gives what the whole gives. Assumes nothing.
use Rattle.std.proofs.Common.{◌≡◌, Bool, true, false, List, Result, Ok, Err, ℕ, suc, ◌+◌, ◌-◌, ◌≤◌, ◌<◌, length, get_or, add-one, arith}
use Rattle.model.specs.Logic.{when◌then◌else◌}
use Rattle.list_lines.specs.declared.entries.Entry.{Entry}
use Rattle.list_lines.specs.declared.entries.Fault.{Fault}
use Rattle.list_text.specs.Texts.{is_of, fault_from, fault_in, numbers_from, line_number}
use Rattle.list_text.specs.Places.{entries_from, Read}
use Rattle.list_text.proofs.Cutting.{all_left, none_left}

-- ---- a line's number is at most the place after its start
pub record Counted (text : List ℕ) (start number : ℕ) : Type 0 where
  pub few : number ≤ start + 1
  pub within : start ≤ length text + 1

counted_start : (text : List ℕ) → Counted text 0 1
counted_start text = record { few = omega arith; within = omega arith }

counted_more : {text : List ℕ} {start number next : ℕ} {e : Result Entry Fault} → Counted text start number → Read text start e next → Counted text next (number + 1)
counted_more n r = let few = n.few in let low = r.low in record { few = omega arith; within = r.high }

-- ---- the first fault: from a place on, lines counted from a number
pub record Faulting (text : List ℕ) (start number : ℕ) : Type 0 where
  pub counted : Counted text start number
  pub rest : fault_from number (entries_from start text) ≡ fault_in text

pub faulting_start : (text : List ℕ) → Faulting text 0 1
unfolding fault_in
faulting_start text = record { counted = counted_start text; rest = rw (all_left text) }

module _ {text : List ℕ} {start number : ℕ} (f : Faulting text start number) where
  module _ {r : Result Entry Fault} {next : ℕ} (read : Read text start r next) where
    pub faulting_more : {e : Entry} → r ≡ Ok e → Faulting text next (number + 1)
    unfolding fault_from
    faulting_more h = record { counted = counted_more f.counted read; rest = rw (add-one number) (rw (read.first, h) at f.rest) }

    pub faulting_here : {e : Fault} → r ≡ Err e → Err (record { fault = e; line = number }) ≡ fault_in text
    unfolding fault_from
    faulting_here h = rw (read.first, h) at f.rest

  pub faulting_none : length text < start → Ok tt ≡ fault_in text
  unfolding fault_from
  faulting_none h = rw (none_left start text h) at f.rest

-- ---- the line of entry k of a sort, with entries ahead of it that are still to be passed
pub record Looking (link : Bool) (text : List ℕ) (k ahead start number : ℕ) : Type 0 where
  pub counted : Counted text start number
  pub rest : get_or (numbers_from link number (entries_from start text)) ahead 0 ≡ line_number link text k

pub looking_start : (link : Bool) (text : List ℕ) (k : ℕ) → Looking link text k k 0 1
unfolding line_number
looking_start link text k = record { counted = counted_start text; rest = rw (all_left text) }

module _ {link : Bool} {text : List ℕ} {k ahead start number : ℕ} (l : Looking link text k ahead start number) where
  module _ {e : Result Entry Fault} {next : ℕ} (r : Read text start e next) where
    -- no entry of the sort
    pub looking_on : is_of link e ≡ false → Looking link text k ahead next (number + 1)
    unfolding numbers_from when◌then◌else◌
    looking_on h = record { counted = counted_more l.counted r; rest = rw (add-one number) (rw (r.first, h) at l.rest) }

    -- an entry that is passed
    pub looking_past : is_of link e ≡ true → (ahead ≡ 0 → ⊥) → Looking link text k (ahead - 1) next (number + 1)
    unfolding numbers_from when◌then◌else◌
    looking_past h z =
        let n : ahead ≡ suc (ahead - 1) = omega arith in
        record { counted = counted_more l.counted r; rest = rw (add-one number) (rw (r.first, h, n) at l.rest) }

    -- the entry
    pub looking_here : is_of link e ≡ true → ahead ≡ 0 → number ≡ line_number link text k
    unfolding numbers_from when◌then◌else◌
    looking_here h z = rw (r.first, h, z) at l.rest

  pub looking_none : length text < start → 0 ≡ line_number link text k
  unfolding numbers_from
  looking_none h = rw (none_left start text h) at l.rest
