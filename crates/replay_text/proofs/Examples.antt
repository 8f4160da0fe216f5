-- Sizes by computation. Assumes nothing.
use mathlib.Core.Path.{◌≡◌, refl}
use mathlib.Core.List.{[]}
use Rattle.std.specs.Prelude.{Some, None}
use Rattle.model.specs.Logic.{when◌then◌else◌}
use Rattle.replay_text.specs.Text.{ascii}
use Rattle.replay_text.specs.Sizes.{is_digit, all_digits, value_after, size_after, size_of}

greatest : size_of (ascii "4096") ≡ Some 4096
unfolding ascii when◌then◌else◌ is_digit all_digits value_after size_after size_of
greatest = refl

zeros_in_front : size_of (ascii "00047") ≡ Some 47
unfolding ascii when◌then◌else◌ is_digit all_digits value_after size_after size_of
zeros_in_front = refl

too_great : size_of (ascii "4097") ≡ None
unfolding ascii when◌then◌else◌ is_digit all_digits value_after size_after size_of
too_great = refl

zero_bytes : size_of (ascii "0") ≡ None
unfolding ascii when◌then◌else◌ is_digit all_digits value_after size_after size_of
zero_bytes = refl

no_digits : size_of [] ≡ None
unfolding when◌then◌else◌ all_digits value_after size_after size_of
no_digits = refl

signed : size_of (ascii "+47") ≡ None
unfolding ascii when◌then◌else◌ is_digit all_digits value_after size_after size_of
signed = refl
