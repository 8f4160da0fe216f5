-- What a comparison tells. Assumes nothing.
use Rattle.std.specs.Prelude.{◌≡◌, Bool, true}

-- true where the two are equal, and only there
pub record Tells {A : Type 0} (a b : A) (r : Bool) : Type 0 where
  pub equal : r ≡ true → a ≡ b
  pub found : a ≡ b → r ≡ true
