-- The marks of a whole set are the wake set's, and what is read off them: the lowest member, and whether another is barred. Members
-- are at most the target (`falls_within`), so the devices up to it are all that is looked at. Assumes nothing.
use mathlib.Core.Path.{◌≡◌, refl, sym, ◌∙◌}
use mathlib.Core.Bool.{Bool, true, false}
use mathlib.Core.List.{List}
use mathlib.Core.Logic.{◌↔◌}
use Prim.Native.Nat.{ℕ, ◌<◌, ◌≤◌}
use native.Mathlib.Omega.{arith}
use native.Mathlib.Decide.{dec_lt}
use lib.ListN.{length, get_or, replicate, length-replicate}
use lib.Seq.{ext_get_or}
use Rattle.std.specs.Prelude.{Option, None, Some}
use Rattle.std.specs.Option.{unwrap_or}
use Rattle.model.specs.Limits.{ROWS, NONE}
use Rattle.model.specs.Logic.{◌and◌, any, first}
use Rattle.model.specs.State.{State, ACTIVE, status_at}
use Rattle.model.specs.WakeSet.{Falls, here, down_to, On, marked, wake_marks, in_wake, lowest}
use Rattle.model.specs.Requests.{barred, others_barred}
use Rattle.model.specs.Sound.{Ordered}
use Rattle.model.proofs.Basics.{never, any_find, any_of, first_passes, first_least, first_low, first_at, first_none, few_devices_lem}
use Rattle.model.proofs.Logic.{tests}
use Rattle.model.proofs.WakeSet.{none_on, marks_long, falls_iff, falls_within, falls_in, powered_empty, wake_iff}
use Rattle.memory.specs.Layout.{state_in}
use Rattle.links.specs.Firsts.{Listed}
use Rattle.wakeset.proofs.Scans.{off}
use Rattle.wakeset.specs.Marks.{IsWakeSet, IsLowest, FindsLowest, HeardFrom, Reaches}
use Rattle.wakeset.specs.Sweep.{Swept, Sweeps}
use Rattle.wakeset.proofs.Resting.{needs_follows}

alike : (a b : Bool) → (a ≡ true → b ≡ true) → (b ≡ true → a ≡ true) → a ≡ b
alike true b f g = sym (f refl)
alike false true f g = g refl
alike false false f g = refl

-- ---- the marks
-- the marks of the members that are reached by falling numbers are the model's
pub marks_are : (s : State) (t : ℕ) (ms : List Bool) → Ordered s.wiring → t < s.wiring.n → length ms ≡ ROWS →
    ((q : ℕ) → On ms q ↔ Falls s.wiring s.devices.status t q) → ms ≡ wake_marks s.wiring s.devices.status t
marks_are s t ms r l long iff =
    let w = s.wiring in
    let status = s.devices.status in
    let few : w.n ≤ NONE = (let z = few_devices_lem r.devices in omega arith) in
    ext_get_or false ms (wake_marks w status t) (long ∙ sym (marks_long w status t few l))
    (λ q b. alike (get_or ms q false) (get_or (wake_marks w status t) q false) (λ e. (falls_iff w status t few l q).1 ((iff q).0 e))
    (λ e. (iff q).1 ((falls_iff w status t few l q).0 e)))

-- a powered device has none
pub powered_marks : {bytes first : List ℕ} {t : ℕ} → ((words : List ℕ) → ACTIVE ≤ status_at (state_in bytes words) t) → IsWakeSet bytes first t (replicate ROWS false)
powered_marks {bytes} {first} {t} z =
    record {
      only = λ words q o. absurd (none_on ROWS q o);
      is =
          λ words h l.
          marks_are (state_in bytes words) t _ h.order l (length-replicate ROWS false)
          (λ q. (λ o. absurd (none_on ROWS q o), λ f. absurd (powered_empty (z words) (falls_in f))));
    }

-- where the sweep has passed every device, the marks are the wake set's
swept_marks : {bytes first : List ℕ} {t low : ℕ} {ms : List Bool} → ((words : List ℕ) → Swept (state_in bytes words) first t 0 ms low) → IsWakeSet bytes first t ms
swept_marks {bytes} {first} {t} {ms = ms} u =
    record {
      only = λ words q o. (u words).asleep q o;
      is = λ words h l. marks_are (state_in bytes words) t ms h.order l (u words).long (λ q. ((u words).reached h q, go words h l));
    }
  where
    go : (words : List ℕ) → Listed (state_in bytes words).wiring first → t < (state_in bytes words).wiring.n →
        {q : ℕ} → Falls (state_in bytes words).wiring (state_in bytes words).devices.status t q → On ms q
    go words h l (here z) = (u words).top
    go words h l (down_to {p = p} {q = q} i d b z) =
        let few = few_devices_lem h.order.devices in
        let low = falls_within i in
        (u words).rests p q (omega arith) (go words h l i) (needs_follows h p (omega arith) q d b z)

-- the lowest mark is the first below t, or t
lowest_mark : {s : State} {first-links : List ℕ} {t k low : ℕ} {ms : List Bool} → Swept s first-links t k ms low → low ≡ first (marked ms) t
lowest_mark {t = t} {low = low} {ms = ms} u =
    let h = u.lowest in
    let w = h.least t u.top in
    let none : (j : ℕ) → j < low → marked ms j ≡ false = λ j b. off _ (λ o. let k = h.least j o in omega arith) in
    elim (dec_lt low t) [
      | yes k ↦ sym (first_at (marked ms) t low none k h.on)
      | no k ↦ let e : low ≡ t = omega arith in e ∙ sym (first_none (marked ms) t (rw e at none))
    ]

-- ---- the wake set of a sleeping device, with the marks up to it
module _ (s : State) {t : ℕ} (r : Ordered s.wiring) (l : t < s.wiring.n) {ms : List Bool} (e : ms ≡ wake_marks s.wiring s.devices.status t) where
  few : s.wiring.n ≤ NONE
  few = let z = few_devices_lem r.devices in omega arith

  member : (q : ℕ) → in_wake s t q ≡ marked ms q
  unfolding in_wake
  member q = rw e refl

  within : (q : ℕ) → in_wake s t q ≡ true → q ≤ t
  unfolding in_wake
  within q i = falls_within ((falls_iff s.wiring s.devices.status t few l q).0 i)

  -- the first mark, or t itself
  lowest_first : status_at s t < ACTIVE → first (marked ms) t ≡ lowest s t
  unfolding lowest in_wake
  lowest_first z =
      let low = first_low (marked ms) t in
      let none : (j : ℕ) → j < first (marked ms) t → in_wake s t j ≡ false = λ j b. member j ∙ off _ (λ y. let k = first_least (marked ms) t j y in omega arith) in
      let on : in_wake s t (first (marked ms) t) ≡ true =
      elim (dec_lt (first (marked ms) t) t) [
        | yes y ↦ member _ ∙ first_passes (marked ms) t y
        | no g ↦ let y : first (marked ms) t ≡ t = omega arith in rw y ((falls_iff s.wiring s.devices.status t few l t).1 (here z))
      ] in
      sym (first_at (in_wake s t) s.wiring.n (first (marked ms) t) none (omega arith) on)

  -- the members other than t are the marks below it
  others_below : any (λ q. marked ms q and barred s q) t ≡ others_barred s t
  unfolding others_barred
  others_below =
      alike _ _
      (λ y. let z = any_find _ t y in let f = simp tests at z.2 in any_of _ s.wiring.n z.0 (omega (arith, z.1)) (simp tests (member z.0 ∙ f.0, ((λ k. omega (arith, z.1)), f.1))))
      (λ y.
      let z = any_find _ s.wiring.n y in
      let f = simp tests at z.2 in
      let b = within z.0 f.0 in
      any_of _ t z.0 (elim (dec_lt z.0 t) [ yes k ↦ k | no k ↦ absurd (f.1.0 (omega arith)) ]) (simp tests (sym (member z.0) ∙ f.0, f.1.1)))

-- a powered device has no members
module _ (s : State) {t : ℕ} (r : Ordered s.wiring) (l : t < s.wiring.n) (z : ACTIVE ≤ status_at s t) where
  none : (q : ℕ) → in_wake s t q ≡ false
  none q = off _ (λ e. powered_empty z ((wake_iff s r t l q).0 e))

  lowest_none : s.wiring.n ≡ lowest s t
  unfolding lowest
  lowest_none = sym (first_none (in_wake s t) s.wiring.n (λ j b. none j))

  others_none : false ≡ others_barred s t
  unfolding others_barred
  others_none = alike false _ (λ e. never e refl) (λ e. let y = any_find _ s.wiring.n e in let f = simp tests at y.2 in never f.0 (none y.0))

-- ---- the two answers, at each exit
module _ {bytes first-links : List ℕ} {t : ℕ} where
  pub lowest_powered : {r : ℕ} → ((words : List ℕ) → r ≡ (state_in bytes words).wiring.n) → ((words : List ℕ) → ACTIVE ≤ status_at (state_in bytes words) t) →
      IsLowest bytes first-links t r
  lowest_powered n z =
      record {
        powered = λ words y. n words;
        asleep = λ words y. let k = z words in absurd (omega arith);
        is = λ words h l. n words ∙ lowest_none _ h.order l (z words);
      }

  -- t sleeps: the marks after a sweep from none
  module _ {ms : List Bool} {r : ℕ} (z : (words : List ℕ) → status_at (state_in bytes words) t < ACTIVE) (u : Sweeps bytes first-links t (replicate ROWS false) ms r) where
    swept : (words : List ℕ) → Swept (state_in bytes words) first-links t 0 ms r
    swept words = u.is words refl (z words)

    pub wake_marks_lem : IsWakeSet bytes first-links t ms
    wake_marks_lem = swept_marks swept

    pub lowest_asleep : IsLowest bytes first-links t r
    lowest_asleep =
        record {
          powered = λ words y. let k = z words in absurd (omega arith);
          asleep = λ words y. (swept words).asleep r (swept words).lowest.on;
          is = λ words h l. lowest_mark (swept words) ∙ lowest_first _ h.order l (wake_marks_lem.is words h l) (z words);
        }

    pub reaches_asleep : {words : List ℕ} {b : Bool} → HeardFrom bytes words ms r t b → Reaches bytes words first-links t (record { low = r; barred = b })
    reaches_asleep {words} h =
        let low = (swept words).lowest in
        record {
          low = lowest_asleep;
          free = λ y. let k = z words in absurd (omega arith);
          barred = λ y l. h.is (low.least t (swept words).top) (λ q k. off _ (λ o. let j = low.least q o in omega arith)) ∙ others_below _ y.order l (wake_marks_lem.is words y l);
        }

  -- as a number: n where there is none
  pub finds_lowest : {n : ℕ} (r : Option ℕ) → ((words : List ℕ) → n ≡ (state_in bytes words).wiring.n) → FindsLowest bytes first-links t r
      → IsLowest bytes first-links t (unwrap_or r n)
  finds_lowest None e z = lowest_powered e z
  finds_lowest (Some q) e z = z.1

  pub reaches_powered : {words : List ℕ} {r : ℕ} → ((words : List ℕ) → r ≡ (state_in bytes words).wiring.n) → ((words : List ℕ) → ACTIVE ≤ status_at (state_in bytes words) t) →
      Reaches bytes words first-links t (record { low = r; barred = false })
  reaches_powered {words} n z = record { low = lowest_powered n z; free = λ y. refl; barred = λ h l. others_none _ h.order l (z words) }
