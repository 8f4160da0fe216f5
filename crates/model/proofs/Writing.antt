-- The writer on small lists, by computation. Assumes nothing.
use mathlib.Core.Path.{◌≡◌, refl}
use mathlib.Core.List.{List, [], ◌∷◌}
use Prim.Native.Nat.{ℕ}
use lib.ListN.{replicate}
use Rattle.model.specs.Limits.{DEVICES, LINKS}
use Rattle.model.specs.Logic.{when◌then◌else◌, any, first, column}
use Rattle.model.specs.Table.{parent_good, ends_good}
use Rattle.model.specs.Writing.{devices_given, links_given, counts_good, device_fits, link_whole, pair, number, repeats, link_taken, faulty_device, faulty_link}
use Rattle.model.specs.Writing.{lower, least, in_order, field_of, link_byte_at, sorted_links, table_of, lists_answer, Writing, write_of}

-- a bus, and two devices under it
abbrev three : List ℕ
three = 255 ∷ 0 ∷ 0 ∷ 1 ∷ 0 ∷ 0 ∷ []

abbrev answer : ℕ → ℕ → List ℕ → Writing
answer number index buffer = record { answer = record { number = number; index = index }; buffer = buffer }

-- the links from 2 to 1, from 2 to 0 and from 1 to 0 come out in order, and the last byte of the buffer stays
sorts : write_of three (2 ∷ 1 ∷ 1 ∷ 2 ∷ 0 ∷ 3 ∷ 1 ∷ 0 ∷ 0 ∷ []) (replicate 23 9)
    ≡ answer 0 0 (0x54 ∷ 0x57 ∷ 0x42 ∷ 1 ∷ 0 ∷ 3 ∷ 3 ∷ 255 ∷ 0 ∷ 0 ∷ 1 ∷ 0 ∷ 0 ∷ 1 ∷ 0 ∷ 0 ∷ 2 ∷ 0 ∷ 3 ∷ 2 ∷ 1 ∷ 1 ∷ 9 ∷ [])
unfolding devices_given links_given counts_good device_fits link_whole pair number repeats link_taken faulty_device faulty_link
    lower least in_order field_of link_byte_at sorted_links table_of lists_answer write_of
    DEVICES LINKS when◌then◌else◌ any first column parent_good ends_good
sorts = refl

-- a pair that stands twice is refused at the later copy, whatever its flags and whatever stands between; there is no room, and nothing is written
twice : write_of three (2 ∷ 0 ∷ 1 ∷ 2 ∷ 1 ∷ 0 ∷ 1 ∷ 0 ∷ 0 ∷ 2 ∷ 0 ∷ 3 ∷ []) (9 ∷ []) ≡ answer 7 3 (9 ∷ [])
unfolding devices_given links_given counts_good device_fits link_whole pair repeats link_taken faulty_device faulty_link lists_answer write_of
    DEVICES LINKS when◌then◌else◌ any first parent_good ends_good
twice = refl

-- an entry that is begun is faulty
begun : write_of (255 ∷ 0 ∷ 0 ∷ []) [] [] ≡ answer 6 1 []
unfolding devices_given links_given counts_good device_fits faulty_device lists_answer write_of DEVICES LINKS when◌then◌else◌ first parent_good
begun = refl

-- no device at all is beyond the limits
none : write_of [] [] [] ≡ answer 4 0 []
unfolding devices_given links_given counts_good lists_answer write_of when◌then◌else◌
none = refl

-- a byte too little of room
short : write_of (255 ∷ 0 ∷ []) [] (replicate 8 9) ≡ answer 8 0 (replicate 8 9)
unfolding devices_given links_given counts_good device_fits faulty_device faulty_link sorted_links table_of lists_answer write_of
    DEVICES LINKS when◌then◌else◌ first column parent_good
short = refl
