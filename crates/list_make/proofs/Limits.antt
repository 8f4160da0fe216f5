-- Lists that are too long for a table, and lists that were gathered whole. Assumes nothing.
use mathlib.Core.Path.{◌≡◌, sym, ◌∙◌, ap}
use mathlib.Core.Bool.{false}
use mathlib.Core.List.{List}
use Prim.Native.Nat.{ℕ, ◌+◌, ◌*◌, ◌<◌, ◌≤◌}
use native.Mathlib.Omega.{arith}
use native.Mathlib.Decide.{dec_lt}
use lib.ListN.{length, take}
use lib.Seq.{take_all, take_at}
use Rattle.model.specs.Limits.{DEVICES, LINKS}
use Rattle.model.specs.Table.{TableAnswer}
use Rattle.model.specs.Writing.{devices_given, links_given, counts_good, table_of, Writing, write_of}
use Rattle.writer_laws.proofs.Given.{links_whole_lem, table_long, writes_given}
use Rattle.writer_lists.proofs.Answers.{none, many_devices, many_links, over}
use Rattle.writer.proofs.Laying.{handed_on}
use Rattle.list_text.specs.Texts.{at_front}
use Rattle.std.specs.Prelude.{Result}
use Rattle.list_make.specs.declared.Failure.{Failure}
use Rattle.list_make.specs.Making.{listed_devices, listed_links, writing_in, made_from, Makes}
use Rattle.list_make.proofs.Telling.{same_size}

-- ---- too many entries are refused with 4, whatever the other list is
module _ (devices links buffer : List ℕ) where
  four : counts_good (devices_given devices) (links_given links) ≡ false
      → record { answer = record { number = 4; index = 0 }; buffer = buffer } ≡ write_of devices links buffer
  four e = handed_on devices links buffer (record { number = 4; index = 0 }) (over devices links e) (λ z. omega arith)

  pub long_devices : 2 * DEVICES < length devices → record { answer = record { number = 4; index = 0 }; buffer = buffer } ≡ write_of devices links buffer
  unfolding devices_given
  long_devices l = four (many_devices (devices_given devices) (links_given links) (omega arith) (omega arith))

  pub long_links : 3 * LINKS < length links → record { answer = record { number = 4; index = 0 }; buffer = buffer } ≡ write_of devices links buffer
  unfolding links_given
  long_links l =
      let n = devices_given devices in
      let m = links_given links in
      four
      (elim (dec_lt n 1) [
        | yes z ↦ none n m z
        | no z ↦ elim (dec_lt DEVICES n) [ yes y ↦ many_devices n m (omega arith) y | no y ↦ many_links n m (omega arith) (omega arith) (omega arith) ]
      ])

-- ---- the bytes gathered are all at the front of the buffer, where it has room for them
pub all_there : (bytes buffer : List ℕ) {n : ℕ} {after : List ℕ} → n ≡ length bytes → after ≡ at_front bytes buffer → n ≤ length buffer
    → take n after ≡ bytes
unfolding at_front
all_there bytes buffer {n} e f l =
    rw (f, take_all (length buffer) bytes (omega arith)) (take_at bytes _ n (sym e))

-- ---- the size of a table that is written
pub whole_size : (devices links buffer : List ℕ) → (write_of devices links buffer).answer.number ≡ 0
    → 7 + length devices + length links ≡ length (table_of devices links)
whole_size devices links buffer e =
    let t = table_long devices links in
    let w = links_whole_lem (writes_given devices links buffer e).0 in
    omega arith

-- ---- what is told of the writer's answer a, where the table would have that size
pub makes : (text buffer : List ℕ) (size : ℕ) {a : TableAnswer} {after : List ℕ} {r : Result ℕ Failure}
    → record { answer = a; buffer = after } ≡ writing_in text buffer
    → r ≡ made_from text a size
    → (a.number ≡ 0 → size ≡ 7 + length (listed_devices text) + length (listed_links text))
    → Makes text buffer r after
makes text buffer size {a} w e s =
    let t = length (table_of (listed_devices text) (listed_links text)) in
    record {
      made =
          e
          ∙ same_size text a size t (λ z. s z ∙ whole_size (listed_devices text) (listed_links text) buffer (sym (ap (λ (x : Writing). x.answer.number) w) ∙ z))
          ∙ ap (λ (x : Writing). made_from text x.answer t) w;
      table = ap (λ (x : Writing). x.buffer) w;
    }

-- the writer given the same lists
pub given_same : {devices links : List ℕ} (buffer : List ℕ) {d l : List ℕ} {w : Writing} → w ≡ write_of d l buffer → d ≡ devices → l ≡ links
    → w ≡ write_of devices links buffer
given_same {devices} buffer {d} {l} w e f = w ∙ ap (λ (x : List ℕ). write_of x l buffer) e ∙ ap (λ (x : List ℕ). write_of devices x buffer) f
