-- `c_calls::device` meets its contract: a byte is read as it is, and 255 stands for every greater part number. Assumes nothing.
use mathlib.Core.Path.{◌≡◌}
use Prim.Native.Nat.{ℕ, ◌<◌}
use native.Mathlib.Omega.{arith}
use native.Mathlib.Decide.{dec_lt}
use borrow.Author.Tests.{lt-ltb, le-ltb}
use Rattle.std.specs.Prelude.{Result, Ok, Err}
use Rattle.std.specs.Result.{OkIff, result_unwrap_or}
use Rattle.model.specs.Logic.{when◌then◌else◌}
use Rattle.c_calls.specs.Numbers.{device_of}
use Rattle.c_calls.proofs.device.Goals as goal

module _ (part : ℕ) where
  fits : (x : ℕ) → (part < 256) × (x ≡ part) → x ≡ device_of part
  unfolding device_of when◌then◌else◌
  fits x (l, e) = elim (dec_lt part 255) [ yes y ↦ rw (e, lt-ltb part 255 y) | no g ↦ rw (e, le-ltb part 255 (omega arith)) (omega arith) ]

  far : (part < 256 → ⊥) → 255 ≡ device_of part
  unfolding device_of when◌then◌else◌
  far f = rw (le-ltb part 255 (omega (arith, f)))

  read : {E : Type 0} (r : Result ℕ E) → OkIff r (part < 256) part → result_unwrap_or r 255 ≡ device_of part
  read (Ok x) h = fits x h
  read (Err d) h = far h

pub returns : goal.returns
returns c = rw c.unwrap_or.ensures (read c.args.part c.try_from.result c.try_from.ensures)
