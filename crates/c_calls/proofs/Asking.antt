-- What a C host may ask: every question refuses an unsound bench, takes a part number for its device, and answers what fits a result.
-- Assumes nothing.
use mathlib.Core.Path.{◌≡◌, refl, sym, ap, ◌∙◌}
use mathlib.Core.Bool.{Bool, true, false, not}
use Prim.Native.Nat.{ℕ, ◌<◌, ◌≤◌}
use native.Mathlib.Omega.{arith}
use lib.Dec.{leb}
use borrow.Author.Tests.{leb-false, not-true, ne_eqb}
use Rattle.model.specs.Limits.{LINKS, NONE}
use Rattle.model.specs.Logic.{when◌then◌else◌, ◌or◌, bit}
use Rattle.model.specs.State.{State, status_at, holds_at, children_at, usage}
use Rattle.model.specs.Sound.{Sound}
use Rattle.model.specs.SoundTest.{sound_test}
use Rattle.model.specs.WakeSet.{in_wake}
use Rattle.model.specs.Questions.{Told, told, parents_above, tell_wake}
use Rattle.model.proofs.Basics.{by_if, few_devices_lem}
use Rattle.model.proofs.Logic.{tests}
use Rattle.model.proofs.Answers.{usage_low, children_low, above_low}
use Rattle.model.proofs.SoundTest.{sound_tested}
use Rattle.c_calls.specs.Numbers.{RANGE, device_of}
use Rattle.c_calls.specs.Questions.{Question, ask}
use Rattle.c_calls.proofs.Answers.{device_known, device_same}

-- what a result can hold
pub record Small (t : Told) : Type 0 where
  pub number : t.number < 256
  pub value : t.value < RANGE

abbrev pub refusal : ℕ → Told
refusal number = record { number = number; value = 0 }

pub record Fair (f : Question) : Type 0 where
  pub unsound : (s : State) (p q : ℕ) → sound_test s ≡ false → f s p q ≡ refusal 21
  pub device : (s : State) (p q : ℕ) → Sound s → f s (device_of p) (device_of q) ≡ f s p q
  pub small : (s : State) (p q : ℕ) → Sound s → Small (f s p q)

-- ---- what is told
module _ (s : State) where
  told_unsound : (known : Bool) (v : ℕ) → sound_test s ≡ false → told s known v ≡ refusal 21
  unfolding told when◌then◌else◌
  told_unsound known v e = rw e

  -- on a sound bench
  module _ (h : Sound s) where
    told_unknown : (v : ℕ) → told s false v ≡ refusal 24
    unfolding told when◌then◌else◌
    told_unknown v = rw (sound_tested h)

    told_known : (v : ℕ) → told s true v ≡ record { number = 0; value = v }
    unfolding told when◌then◌else◌
    told_known v = rw (sound_tested h)

    -- the value counts only where all parts are known
    told_alike : (known : Bool) (v w : ℕ) → (known ≡ true → v ≡ w) → told s known v ≡ told s known w
    told_alike true v w f = ap (told s true) (f refl)
    told_alike false v w f = told_unknown v ∙ sym (told_unknown w)

    told_small : (known : Bool) (v : ℕ) → (known ≡ true → v < RANGE) → Small (told s known v)
    told_small true v f = rw (told_known v) (record { number = omega arith; value = f refl })
    told_small false v f = rw (told_unknown v) (record { number = omega arith; value = omega arith })

-- ---- a question about one part, which reads what fits
known_below : (n p : ℕ) → not (leb n p) ≡ true → p < n
known_below n p e = leb-false _ _ (not-true _ e)

few : {s : State} → Sound s → s.wiring.n ≤ NONE
few h = let z = few_devices_lem h.kept.table.order.devices in omega arith

module _ (read : State → ℕ → ℕ) (fits : (s : State) (p : ℕ) → Sound s → p < s.wiring.n → read s p < RANGE) where
  about_fair : Fair (λ s p q. told s (not (leb s.wiring.n p)) (read s p))
  about_fair =
      record {
        unsound = λ s p q e. told_unsound s _ _ e;
        device =
            λ s p q h.
            let n = s.wiring.n in
            rw (device_same n p (few h)) (told_alike s h _ _ _ (λ k. ap (read s) (device_known n p (few h) (known_below n p k))));
        small = λ s p q h. told_small s h _ _ (λ k. fits s p h (known_below s.wiring.n p k));
      }

-- ---- what is read
status_fits : (s : State) (p : ℕ) → Sound s → p < s.wiring.n → status_at s p < RANGE
status_fits s p h l = let u = h.kept.statuses.used p l in omega arith

holds_fit : (s : State) (p : ℕ) → Sound s → p < s.wiring.n → holds_at s p < RANGE
holds_fit s p h l = let u = h.kept.holds.used p l in omega arith

usage_fits : (s : State) (p : ℕ) → Sound s → p < s.wiring.n → usage s p < RANGE
unfolding LINKS
usage_fits s p h l = let u = usage_low h p l in omega arith

children_fit : (s : State) (p : ℕ) → Sound s → p < s.wiring.n → children_at s p < RANGE
children_fit s p h l = let u = children_low h p l in let z = few h in omega arith

above_fit : (s : State) (p : ℕ) → Sound s → p < s.wiring.n → parents_above s p < RANGE
above_fit s p h l = let u = above_low s p in let z = few h in omega arith

-- ---- the wake set's question, about two parts
bit_low : (b : Bool) → bit b < 2
bit_low true = omega arith
bit_low false = omega arith

both_below : (n p q : ℕ) → not (leb n p or leb n q) ≡ true → (p < n) × (q < n)
both_below n p q e = simp tests at e

wake_fair : Fair tell_wake
wake_fair =
    record {
      unsound = λ s p q e. told_unsound s _ _ e;
      device =
          λ s p q h.
          let n = s.wiring.n in
          let f = few h in
          rw (device_same n p f, device_same n q f)
          (told_alike s h _ _ _ (λ k. let (a, b) = both_below n p q k in rw (device_known n p f a, device_known n q f b)));
      small = λ s p q h. told_small s h _ _ (λ k. let z = bit_low (in_wake s p q) in omega arith);
    }

unknown_fair : Fair (λ s p q. told s false 0)
unknown_fair =
    record {
      unsound = λ s p q e. told_unsound s _ _ e;
      device = λ s p q h. refl;
      small = λ s p q h. told_small s h _ _ (λ k. omega arith);
    }

-- ---- all of them
pub ask_past : (question : ℕ) (s : State) (p q : ℕ) → 6 ≤ question → ask question s p q ≡ told s false 0
unfolding ask when◌then◌else◌
ask_past question s p q l =
    rw (
      ne_eqb question 0 (omega arith),
      ne_eqb question 1 (omega arith),
      ne_eqb question 2 (omega arith),
      ne_eqb question 3 (omega arith),
      ne_eqb question 4 (omega arith),
      ne_eqb question 5 (omega arith),
    )

pub ask_fair : (question : ℕ) → Fair (ask question)
unfolding ask
ask_fair question =
    by_if Fair _ _ _ (λ e. about_fair status_at status_fits)
    (λ e. by_if Fair _ _ _ (λ e. about_fair usage usage_fits)
    (λ e. by_if Fair _ _ _ (λ e. about_fair children_at children_fit)
    (λ e. by_if Fair _ _ _ (λ e. about_fair holds_at holds_fit)
    (λ e. by_if Fair _ _ _ (λ e. wake_fair)
    (λ e. by_if Fair _ _ _ (λ e. about_fair parents_above above_fit) (λ e. unknown_fair))))))
