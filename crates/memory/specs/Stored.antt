-- What a store into row p of a page does to the columns: that column has v there, and every other column and every number stays.
-- Where the page has no such row, or there is no such page, nothing changes. Assumes nothing.
use Rattle.std.specs.Prelude.{◌≡◌, List, ℕ, set, eqb}
use Rattle.model.specs.Logic.{when◌then◌else◌}
use Rattle.memory.specs.Layout.{byte_col, link_col, word_col, byte_tail, word_tail}

-- column k after a store of v into row p of a page
abbrev pub stored : (page p v k : ℕ) → List ℕ → List ℕ
stored page p v k col = when eqb k page then set col p v else col

-- into a page of bytes of the devices
pub record Stored (page p v : ℕ) (bytes₀ bytes : List ℕ) : Type 0 where
  pub columns : (k : ℕ) → byte_col k bytes ≡ stored page p v k (byte_col k bytes₀)
  pub links : (k : ℕ) → link_col k bytes ≡ link_col k bytes₀
  pub numbers : byte_tail bytes ≡ byte_tail bytes₀

-- into a page of the links
pub record StoredLink (page i v : ℕ) (bytes₀ bytes : List ℕ) : Type 0 where
  pub columns : (k : ℕ) → byte_col k bytes ≡ byte_col k bytes₀
  pub links : (k : ℕ) → link_col k bytes ≡ stored page i v k (link_col k bytes₀)
  pub numbers : byte_tail bytes ≡ byte_tail bytes₀

-- into a page of words of the devices
pub record StoredWord (page p v : ℕ) (words₀ words : List ℕ) : Type 0 where
  pub columns : (k : ℕ) → word_col k words ≡ stored page p v k (word_col k words₀)
  pub numbers : word_tail words ≡ word_tail words₀
