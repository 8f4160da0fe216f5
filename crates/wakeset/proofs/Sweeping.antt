-- The sweep, device by device. What follows a device is lower, so once a device is passed no later step marks it, and all that lead to it
-- are passed before it: the marks among the devices passed are final (`exact`). Assumes nothing.
use mathlib.Core.Path.{◌≡◌, refl, sym, ◌∙◌}
use mathlib.Core.Bool.{Bool, true, false}
use mathlib.Core.List.{List}
use mathlib.Core.Logic.{⊎_elim}
use Prim.Native.Nat.{ℕ, ◌-◌, ◌<◌, ◌≤◌}
use native.Mathlib.Omega.{arith}
use native.Mathlib.Nat.{eq-or-lt_of_le}
use native.Mathlib.Decide.{ℕ_discrete}
use lib.ListN.{length, set, replicate, length-set, length-replicate}
use lib.Seq.{get_or-set_same, get_or-set_other}
use Rattle.model.specs.Limits.{ROWS, NONE}
use Rattle.model.specs.State.{State}
use Rattle.model.specs.WakeSet.{Sleeping, InWake, self, next, Falls, here, down_to, On, marked}
use Rattle.model.proofs.Basics.{never, few_devices_lem}
use Rattle.model.proofs.WakeSet.{down, member_below, falls_in, none_on}
use Rattle.memory.specs.Layout.{state_in}
use Rattle.links.specs.Firsts.{Listed}
use Rattle.wakeset.specs.Sweep.{Follows, Adds, Steps, Exact, Swept}
use Rattle.wakeset.proofs.Resting.{follows_lower, follows_needs, needs_follows}

-- ---- request Two's sentence
-- after each step the marked devices among those passed are exactly the wake set's
pub exact : {s : State} {first : List ℕ} {t k low : ℕ} {ms : List Bool} →
    Listed s.wiring first → t < s.wiring.n → Swept s first t k ms low → Exact s t k ms
exact {s} {first} {t} {k} {ms = ms} h ht u q l = (λ m. falls_in (u.reached h q m), λ i. go l i)
  where
    go : {q : ℕ} → k ≤ q → InWake s.wiring s.devices.status t q → On ms q
    go l (self z) = u.top
    go l (next {p = p} {q = q} i d z) =
        let below = member_below h.order ht i in
        let lower = down h.order below d in
        let few = few_devices_lem h.order.devices in
        u.rests p q (omega arith) (go (omega arith) i) (needs_follows h p (omega arith) q d lower z)

-- ---- the steps
-- a device that follows p comes after it in the sweep, and is reached through it
module _ (s : State) (first : List ℕ) {t : ℕ} (p : ℕ) (few : p ≤ NONE) where
  through : Listed s.wiring first → Falls s.wiring s.devices.status t p → (q : ℕ) → Follows s first p q → Falls s.wiring s.devices.status t q
  through h f q c = let l = follows_lower s first p q c in down_to f (follows_needs h p few q c) l.below l.asleep

-- t is marked and passed
pub swept_start : (s : State) (first : List ℕ) (t : ℕ) {ms : List Bool} {low : ℕ} → t ≤ NONE → t < ROWS → Sleeping s.devices.status t →
    Adds (Follows s first t) (set (replicate ROWS false) t true) t ms low → Swept s first t t ms low
swept_start s first t {ms} few room z a =
    record {
      long = a.long ∙ length-set (replicate ROWS false) t true ∙ length-replicate ROWS false;
      top = a.kept t on;
      rests = λ p q h m c. a.has q (rw (at_top p h m) at c);
      asleep =
          λ q m.
          ⊎_elim (λ o. rw (only q o) (record { asleep = z; within = omega arith }))
          (λ c. let l = follows_lower s first t q c in let b = l.below in record { asleep = l.asleep; within = omega arith }) (a.only q m);
      reached = λ h q m. ⊎_elim (λ o. rw (only q o) (here z)) (λ c. through s first t few h (here z) q c) (a.only q m);
      lowest = a.lowest (record { on = on; least = λ q m. let e = only q m in omega arith });
    }
  where
    rows : t < length (replicate ROWS false)
    rows = let e = length-replicate ROWS false in omega arith

    on : On (set (replicate ROWS false) t true) t
    on = get_or-set_same (replicate ROWS false) t true false rows

    only : (q : ℕ) → On (set (replicate ROWS false) t true) q → q ≡ t
    only q m = elim (ℕ_discrete q t) [ yes e ↦ e | no ne ↦ absurd (none_on ROWS q (sym (get_or-set_other (replicate ROWS false) t q true false ne) ∙ m)) ]

    at_top : (p : ℕ) → t ≤ p → On ms p → p ≡ t
    at_top p h m = ⊎_elim (λ o. only p o) (λ c. let b = (follows_lower s first t p c).below in absurd (omega arith)) (a.only p m)

-- device k - 1 is next
module _ (bytes words first : List ℕ) (t k : ℕ) {ms₀ : List Bool} {low₀ : ℕ} (up : 0 < k) (few : k - 1 ≤ NONE)
    (u : Swept (state_in bytes words) first t k ms₀ low₀) where
  abbrev s : State
  s = state_in bytes words

  -- it is marked, and passed
  swept_on : {ms : List Bool} {low : ℕ} → On ms₀ (k - 1) → Adds (Follows s first (k - 1)) ms₀ low₀ ms low → Swept s first t (k - 1) ms low
  swept_on {ms} on a =
      record {
        long = a.long ∙ u.long;
        top = a.kept t u.top;
        rests = λ p q h m c. ⊎_elim (λ e. a.has q (rw (← e) at c)) (λ g. a.kept q (u.rests p q (omega arith) (before p h m) c)) (eq-or-lt_of_le h);
        asleep =
            λ q m.
            let w = (u.asleep (k - 1) on).within in
            ⊎_elim (u.asleep q) (λ c. let l = follows_lower s first (k - 1) q c in let b = l.below in record { asleep = l.asleep; within = omega arith })
            (a.only q m);
        reached = λ h q m. ⊎_elim (u.reached h q) (λ c. through s first (k - 1) few h (u.reached h (k - 1) on) q c) (a.only q m);
        lowest = a.lowest u.lowest;
      }
    where
      before : (q : ℕ) → k - 1 ≤ q → On ms q → On ms₀ q
      before q h m = ⊎_elim (λ x. x) (λ c. let b = (follows_lower s first (k - 1) q c).below in absurd (omega arith)) (a.only q m)

  -- it is not marked
  swept_off : marked ms₀ (k - 1) ≡ false → Swept s first t (k - 1) ms₀ low₀
  swept_off dark =
      record {
        long = u.long;
        top = u.top;
        rests = λ p q h m c. ⊎_elim (λ e. never (rw (← e) at m) dark) (λ g. u.rests p q (omega arith) m c) (eq-or-lt_of_le h);
        asleep = u.asleep;
        reached = u.reached;
        lowest = u.lowest;
      }

  pub swept_step : {ms : List Bool} {low : ℕ} → Steps bytes first (k - 1) ms₀ low₀ ms low → Swept (state_in bytes words) first t (k - 1) ms low
  swept_step {ms} {low} d = by (marked ms₀ (k - 1)) refl
    where
      by : (b : Bool) → marked ms₀ (k - 1) ≡ b → Swept (state_in bytes words) first t (k - 1) ms low
      by true e = swept_on e ((d.on e).is words u.long)
      by false e = let same = d.off e in rw (same.0, same.1) (swept_off e)

-- below the lowest mark there is none: every device is passed
pub swept_end : {s : State} {first : List ℕ} {t k low : ℕ} {ms : List Bool} → k ≤ low → Swept s first t k ms low → Swept s first t 0 ms low
swept_end h u =
    record {
      long = u.long;
      top = u.top;
      rests = λ p q z m c. let l = u.lowest.least p m in u.rests p q (omega arith) m c;
      asleep = u.asleep;
      reached = u.reached;
      lowest = u.lowest;
    }
