-- The parts of the test put together. Assumes nothing.
use mathlib.Core.Path.{◌≡◌, refl}
use mathlib.Core.Bool.{Bool, true, false, ◌&&◌}
use mathlib.Core.List.{List}
use Prim.Native.Nat.{ℕ, ◌-◌, ◌<◌, ◌≤◌}
use borrow.Author.Tests.{le-leb, lt-leb}
use Rattle.model.specs.Limits.{DEVICES, LINKS, ROWS, MAXHOLDS, MAXDEPTH, MAXERROR}
use Rattle.model.specs.Logic.{◌and◌, all}
use Rattle.model.specs.Table.{Wiring}
use Rattle.model.specs.State.{State, Devices, SUSPENDING, children_of, linked_of}
use Rattle.model.specs.SoundTest.{column_test, same_test, parent_supplies, link_supplies, supply_test, table_test, kept_test}
use Rattle.sound_rules.specs.Parts.{parent_fits, ends_fit}
use Rattle.sound_columns.specs.Parts.{ascends_in, wiring_test, devices_test}

pub column_of : (rows most : ℕ) {a : Bool} {n k : ℕ} {x y : List ℕ} → x ≡ y → n ≡ k → a ≡ column_test rows n most x → a ≡ column_test rows k most y
column_of rows most e f h = rw (e, f) at h

pub same_of : {a : Bool} {x y p q : List ℕ} → x ≡ p → y ≡ q → a ≡ same_test x y → a ≡ same_test p q
same_of e f h = rw (e, f) at h

pub all_of : (f : ℕ → Bool) {a : Bool} {n k : ℕ} → n ≡ k → a ≡ all f n → a ≡ all f k
all_of f e h = rw e at h

pub fit_of : (s : State) {a : Bool} {n k m j : ℕ} → n ≡ k → m ≡ j → a ≡ all (ends_fit n s) m → a ≡ all (ends_fit k s) j
fit_of s e f h = rw (e, f) at h

and_assoc : (x y z : Bool) → (x and y) and z ≡ x and (y and z)
and_assoc true y z = refl
and_assoc false y z = refl

pub wiring_parts : (s : State) {a b c d e f g h : Bool}
    → a ≡ column_test ROWS s.wiring.n 255 s.wiring.parent
    → b ≡ column_test ROWS s.wiring.n 1 s.wiring.ignore
    → c ≡ column_test LINKS s.wiring.m 255 s.wiring.consumer
    → d ≡ column_test LINKS s.wiring.m 255 s.wiring.supplier
    → e ≡ column_test LINKS s.wiring.m 3 s.wiring.flags
    → f ≡ all (parent_fits s) s.wiring.n
    → g ≡ all (ends_fit s.wiring.n s) s.wiring.m
    → h ≡ all (ascends_in s.wiring) (s.wiring.m - 1)
    → ((((((a && b) && c) && d) && e) && f) && g) && h ≡ wiring_test s.wiring
unfolding wiring_test parent_fits ends_fit
wiring_parts s ea eb ec ed ee ef eg eh = rw (ea, eb, ec, ed, ee, ef, eg, eh) (simp and_assoc)

pub devices_parts : (w : Wiring) (v : Devices) {a b c d e f g h : Bool}
    → a ≡ column_test ROWS w.n SUSPENDING v.status
    → b ≡ column_test ROWS w.n MAXHOLDS v.holds
    → c ≡ column_test ROWS w.n MAXDEPTH v.depth
    → d ≡ column_test ROWS w.n MAXERROR v.error
    → e ≡ same_test v.children (children_of w v.status)
    → f ≡ same_test v.linked (linked_of w v.status)
    → g ≡ all (parent_supplies w v.status) w.n
    → h ≡ all (link_supplies w v.status) w.m
    → ((((((a && b) && c) && d) && e) && f) && g) && h ≡ devices_test w v
unfolding devices_test supply_test
devices_parts w v ea eb ec ed ee ef eg eh = rw (ea, eb, ec, ed, ee, ef, eg, eh) (simp and_assoc)

-- the exits of `well_kept`
module _ (w : Wiring) (v : Devices) where
  pub kept_none : w.n < 1 → false ≡ kept_test w v
  unfolding kept_test table_test
  kept_none l = rw (lt-leb _ _ l)

  pub kept_many : 1 ≤ w.n → DEVICES < w.n → false ≡ kept_test w v
  unfolding kept_test table_test
  kept_many a l = rw (le-leb _ _ a, lt-leb _ _ l)

  pub kept_linked : 1 ≤ w.n → w.n ≤ DEVICES → LINKS < w.m → false ≡ kept_test w v
  unfolding kept_test table_test
  kept_linked a b l = rw (le-leb _ _ a, le-leb _ _ b, lt-leb _ _ l)

  pub kept_all : {x y : Bool} → 1 ≤ w.n → w.n ≤ DEVICES → w.m ≤ LINKS → x ≡ wiring_test w → y ≡ devices_test w v → x && y ≡ kept_test w v
  unfolding kept_test table_test wiring_test devices_test ascends_in
  kept_all a b l e f = rw (le-leb _ _ a, le-leb _ _ b, le-leb _ _ l, e, f)
