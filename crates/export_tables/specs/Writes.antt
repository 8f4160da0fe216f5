-- Two lists written into a buffer, the answer as one number. Assumes nothing.
use Rattle.std.specs.Prelude.{◌≡◌, List, ℕ}
use Rattle.model.specs.Writing.{write_of}
use Rattle.export_tables.specs.Loads.{coded}

-- the answer to the lists, and the buffer that is left
pub record WriteIs (devices links old new : List ℕ) (r : ℕ) : Type 0 where
  pub code : r ≡ coded (write_of devices links old).answer
  pub buffer : new ≡ (write_of devices links old).buffer
