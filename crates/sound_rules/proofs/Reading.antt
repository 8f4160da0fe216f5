-- What the rule on values tells of the model's tests. Assumes nothing.
use mathlib.Core.Path.{◌≡◌, refl}
use mathlib.Core.Bool.{Bool, true, false, not, ◌||◌}
use mathlib.Core.List.{List}
use Prim.Native.Nat.{ℕ}
use lib.ListN.{get_or}
use Rattle.model.specs.Logic.{◌or◌, ◌implies◌}
use Rattle.model.specs.Table.{Wiring}
use Rattle.model.specs.SoundTest.{parent_supplies, link_supplies}
use Rattle.sound_rules.specs.Parts.{child_rests, link_rests}

-- the last of several tests is asked for only where one more holds
pub or_implies : (a b c : Bool) → (a || not b) || c ≡ (a or (b implies c))
unfolding ◌implies◌
or_implies true b c = refl
or_implies false true c = refl
or_implies false false c = refl

pub or_or_implies : (a b c d : Bool) → ((a || b) || not c) || d ≡ (a or (b or (c implies d)))
or_or_implies true b c d = refl
or_or_implies false b c d = or_implies b c d

pub rests_at : {st pa ig up : ℕ} {r : Bool} (w : Wiring) (status : List ℕ) (p : ℕ)
    → st ≡ get_or status p 0 → pa ≡ get_or w.parent p 0 → ig ≡ get_or w.ignore pa 0 → up ≡ get_or status pa 0
    → r ≡ child_rests st pa ig up → r ≡ parent_supplies w status p
unfolding parent_supplies child_rests
rests_at w status p a b c d e = rw (e, c, d, a, b)

pub link_rests_at : {st fl up co su : ℕ} {r : Bool} (w : Wiring) (status : List ℕ) (i : ℕ)
    → co ≡ get_or w.consumer i 0 → su ≡ get_or w.supplier i 0 → st ≡ get_or status co 0 → fl ≡ get_or w.flags i 0 → up ≡ get_or status su 0
    → r ≡ link_rests st fl up → r ≡ link_supplies w status i
unfolding link_supplies link_rests
link_rests_at w status i a b c d e f = rw (f, c, e, d, a, b)
