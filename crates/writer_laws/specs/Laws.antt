-- The laws of request One. A table is taken where `load_of` gives it the number 0; its wiring is that of the bench loaded.
-- Assumes nothing.
use Rattle.std.specs.Prelude.{◌≡◌, List, ℕ, ◌+◌, ◌*◌, ◌≤◌, length, take, drop}
use Rattle.model.specs.Table.{Wiring, devices_in}
use Rattle.model.specs.State.{load_of}
use Rattle.model.specs.Writing.{written, write_of}
use Rattle.writer_laws.specs.Same.{Says, SameWiring}

abbrev pub Taken : List ℕ → Type 0
Taken t = (load_of t).answer.number ≡ 0

abbrev pub wiring : List ℕ → Wiring
wiring t = (load_of t).state.wiring

-- what the writer writes, the loader takes, and gives back the same devices and the same set of links
pub record Written (devices links buffer : List ℕ) : Type 0 where
  pub table : List ℕ
  pub room : length table ≤ length buffer
  pub written : write_of devices links buffer ≡ written table buffer
  pub taken : Taken table
  pub same : Says devices links (wiring table)

abbrev pub WhatItWrites : Type 0
WhatItWrites = (devices links buffer : List ℕ) → (write_of devices links buffer).answer.number ≡ 0 → Written devices links buffer

-- what the loader takes, the writer turns into the same bytes, from its devices and its links in any order
abbrev pub WhatItTakes : Type 0
WhatItTakes =
    (t devices links buffer : List ℕ)
    → Taken t
    → Says devices links (wiring t)
    → length t ≤ length buffer
    → write_of devices links buffer ≡ written t buffer

-- the table's own entries are such devices and links
abbrev pub ItsOwn : Type 0
ItsOwn = (t : List ℕ) → Taken t → Says (take (2 * devices_in t) (drop 7 t)) (drop (7 + 2 * devices_in t) t) (wiring t)

-- the table is the one: two that are taken and have the same devices and the same set of links are the same bytes
abbrev pub TheOne : Type 0
TheOne = (t u : List ℕ) → Taken t → Taken u → SameWiring (wiring t) (wiring u) → t ≡ u

-- a refusal writes nothing
abbrev pub NothingElse : Type 0
NothingElse = (devices links buffer : List ℕ) → ((write_of devices links buffer).answer.number ≡ 0 → ⊥) → (write_of devices links buffer).buffer ≡ buffer
