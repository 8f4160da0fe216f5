-- The bytes of a sort, line by line into a buffer. Assumes nothing.
use Rattle.std.proofs.Common.{◌≡◌, refl, ◌∙◌, Bool, List, Result, Ok, ℕ, ◌+◌, ◌*◌, ◌-◌, ◌≤◌, ◌<◌, length, length-append, arith}
use Rattle.std.proofs.lemmas.List.Edits.{sets}
use mathlib.Core.Logic.{⊎_elim}
use native.Mathlib.Nat.{eq-or-lt_of_le}
use lib.Seq.{length-sets}
use Rattle.list_lines.specs.declared.entries.Entry.{Entry}
use Rattle.list_lines.specs.declared.entries.Entry.TheVariants.{Nothing}
use Rattle.list_lines.specs.declared.entries.Fault.{Fault}
use Rattle.list_text.specs.Texts.{bytes_of, bytes_in, gathered, Gathered}
use Rattle.list_text.specs.Places.{entries_from, Read, Stored}
use Rattle.list_text.proofs.Cutting.{all_left, none_left}
use Rattle.list_text.proofs.Sorts.{none_bytes, three}
use Rattle.list_text.proofs.Storing.{sets_more, sets_front}

-- ---- from line to line: what is left of the text, after the bytes stored, gives what the whole gives
pub record Gathering (link : Bool) (text before : List ℕ) (at start : ℕ) (out : List ℕ) : Type 0 where
  pub few : 2 * at ≤ 3 * start
  pub within : start ≤ length text + 1
  pub long : length out ≡ length before
  pub bytes : at + length (bytes_in link (entries_from start text)) ≡ length (gathered link text)
  pub buffer : sets out at (bytes_in link (entries_from start text)) ≡ sets before 0 (gathered link text)

pub gathering_start : (link : Bool) (text before : List ℕ) → Gathering link text before 0 0 before
unfolding gathered
gathering_start link text before =
    record { few = omega arith; within = omega arith; long = refl; bytes = rw (all_left text) (omega arith); buffer = rw (all_left text) }

-- a line with three bytes has two places of the text at least: one of its own, and its line feed
room : (link : Bool) (e : Result Entry Fault) (start next : ℕ) → start < next → (next ≡ start + 1 → e ≡ Ok Nothing) → 2 * length (bytes_of link e) ≤ 3 * (next - start)
room link e start next low empty =
    let h : start + 1 ≤ next = omega arith in
    ⊎_elim
    (λ q. rw (none_bytes link (empty (omega arith)) refl) (omega arith))
    (λ l. let n = three link e in omega arith)
    (eq-or-lt_of_le h)

module _ {link : Bool} {text before : List ℕ} {at start : ℕ} {out : List ℕ} (g : Gathering link text before at start out) where
  pub gathering_more :
      {e : Result Entry Fault} {next more : ℕ} {after : List ℕ}
      → Read text start e next → Stored link e at out more after → Gathering link text before more next after
  unfolding bytes_in
  gathering_more {e} {next} r s =
      let few = g.few in
      let low = r.low in
      let n = room link e start next r.low r.empty in
      let rest = bytes_in link (entries_from next text) in
      let l = length-append (bytes_of link e) rest in
      let bytes = rw r.first at g.bytes in
      let place = s.place in
      record {
        few = omega arith;
        within = r.high;
        long = rw s.buffer (length-sets out at (bytes_of link e)) ∙ g.long;
        bytes = omega arith;
        buffer = rw (s.buffer, s.place) (sets_more out at (bytes_of link e) rest) ∙ rw r.first at g.buffer;
      }

  pub gathering_end : length text < start → Gathered link text before at out
  unfolding bytes_in
  gathering_end h =
      let e = none_left start text h in
      let bytes = rw e at g.bytes in
      record { bytes = omega arith; buffer = (rw e at g.buffer) ∙ sets_front (gathered link text) before }
