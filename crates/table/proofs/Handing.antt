-- A refusal has a number. Assumes nothing.
use mathlib.Core.Path.{◌≡◌}
use Rattle.table.specs.declared.Refusal.{Refusal}
use Rattle.table.specs.declared.Refusal.TheVariants.{Short, Mark, Version, Limits, Length, Device, Link}
use native.Mathlib.Omega.{arith}
use Rattle.table.specs.Answers.{refusal_of}

pub refused : (r : Refusal) → (refusal_of r).number ≡ 0 → ⊥
refused Short e = omega arith
refused Mark e = omega arith
refused Version e = omega arith
refused Limits e = omega arith
refused Length e = omega arith
refused (Device p) e = omega arith
refused (Link i) e = omega arith
