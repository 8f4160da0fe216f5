-- The text of a table, and that it is written as the same table. Assumes nothing.
use Rattle.std.specs.Prelude.{◌≡◌, true, false, Ok, List, [], ◌++◌, ℕ, zero, suc, ◌≤◌, length}
use Rattle.model.specs.Table.{devices_in, links_in, device_byte, link_byte}
use Rattle.model.specs.Writing.{written, write_of}
use Rattle.writer_laws.specs.Laws.{Taken}
use Rattle.list_print.specs.Lines.{part_text, link_text}
use Rattle.list_text.specs.Texts.{gathered, fault_in}

-- so many texts, one after another
unfoldable pub joined : (ℕ → List ℕ) → ℕ → List ℕ
joined f zero = []
joined f (suc n) = f 0 ++ joined (λ k. f (suc k)) n

-- a line for each device, then a line for each link, as `list` prints them
unfoldable pub text_of : List ℕ → List ℕ
text_of t =
    joined (λ p. part_text (device_byte t 0 p) (device_byte t 1 p)) (devices_in t)
    ++ joined (λ i. link_text (link_byte t 0 i) (link_byte t 1 i) (link_byte t 2 i)) (links_in t)

-- every line of it is one of a list's, and the writer makes the same table of its lists
pub record WrittenBack (t buffer : List ℕ) : Type 0 where
  pub lines : fault_in (text_of t) ≡ Ok tt
  pub table : write_of (gathered false (text_of t)) (gathered true (text_of t)) buffer ≡ written t buffer

abbrev pub RoundTrip : Type 0
RoundTrip = (t buffer : List ℕ) → Taken t → length t ≤ length buffer → WrittenBack t buffer
