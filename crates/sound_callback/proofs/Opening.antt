-- A resume callback: what stands asked for is a member, so its target sleeps and is a member too. Assumes nothing.
use mathlib.Core.Path.{◌≡◌, refl, sym}
use mathlib.Core.Bool.{Bool, true, false, not}
use mathlib.Core.List.{List}
use Prim.Native.Nat.{ℕ, ◌<◌, ◌≤◌}
use native.Mathlib.Omega.{arith}
use native.Mathlib.Decide.{ℕ_discrete, dec_lt}
use lib.Dec.{eqb}
use Rattle.std.specs.Prelude.{Some, None}
use borrow.Author.Tests.{eq-eqb, ne_eqb, lt-ltb}
use Rattle.model.specs.Logic.{when◌then◌else◌, ◌and◌, ◌implies◌, all}
use Rattle.model.specs.State.{State, RESUMING, SUSPENDING, ACTIVE, status_at}
use Rattle.model.specs.Sound.{Ordered}
use Rattle.model.specs.WakeSet.{self, in_wake, lowest}
use Rattle.model.specs.Requests.{barred, others_barred}
use Rattle.model.specs.SoundTest.{kept_test, all_steady, others_steady, members_clear, none_test, suspend_open_test, resume_open_test, idle_open_test, callback_test}
use Rattle.model.proofs.Chains.{and_go}
use Rattle.model.proofs.Basics.{any_find, and_parts, never, first_low, few_devices_lem, none_rows}
use Rattle.model.proofs.Logic.{any_fails, all_iff}
use Rattle.model.proofs.Loops.{all_failed}
use Rattle.model.proofs.SoundTest.{kept_ordered, kept_unused}
use Rattle.model.proofs.WakeSet.{wake_iff, first_lowest, powered_empty}
use Rattle.sound_callback.specs.Parts.{steady_but, open_test}
use Rattle.links.specs.Firsts.{first_links, Listed}

-- where the columns passed their test, the index is one of links in order
pub listed_in : (s : State) {first : List ℕ} → kept_test s.wiring s.devices ≡ true → first ≡ first_links s.wiring → Listed s.wiring first
listed_in s e index = record { order = kept_ordered _ _ e; index = index }

module _ (s : State) (t : ℕ) where
  -- another member is barred
  clear_not : others_barred s t ≡ true → false ≡ members_clear s t
  unfolding others_barred members_clear ◌implies◌
  clear_not e =
      let w = any_find _ s.wiring.n e in
      let a = and_parts (in_wake s t w.0) (not (eqb w.0 t) and barred s w.0) w.2 in
      let b = and_parts (not (eqb w.0 t)) (barred s w.0) a.1 in
      all_failed _ s.wiring.n w.0 w.1 (rw (a.0, b.1))

  -- none is
  clear_if : t < s.wiring.n → in_wake s t t ≡ true → others_barred s t ≡ false → not (barred s t) ≡ members_clear s t
  unfolding others_barred members_clear ◌implies◌
  clear_if l m e = go (barred s t) refl
    where
      fails : (q : ℕ) → q < s.wiring.n → (in_wake s t q and not (eqb q t) and barred s q) ≡ false
      fails = (any_fails _ s.wiring.n).0 e

      other : (q : ℕ) → (q ≡ t → ⊥) → (x b : Bool) → (x and not (eqb q t) and b) ≡ false → (x implies not b) ≡ true
      other q ne true true h = never {x = true} refl (rw (ne_eqb q t ne) at h)
      other q ne true false h = refl
      other q ne false b h = refl

      go : (b : Bool) → barred s t ≡ b → not (barred s t) ≡ all (λ q. in_wake s t q implies not (barred s q)) s.wiring.n
      go true h = rw h (all_failed _ s.wiring.n t l (rw (m, h)))
      go false h =
          rw h
          (sym ((all_iff _ s.wiring.n).1
          (λ q b. elim (ℕ_discrete q t) [ yes y ↦ rw (y, m, h) | no ne ↦ other q ne (in_wake s t q) (barred s q) (fails q b) ])))

  -- where the lowest member is resuming, the target is a member
  module _ (k : kept_test s.wiring s.devices ≡ true) (l : t < s.wiring.n) {p : ℕ} (low : lowest s t ≡ p) (turned : status_at s p ≡ RESUMING) where
    order : Ordered s.wiring
    order = kept_ordered _ _ k

    below : lowest s t < s.wiring.n
    unfolding lowest
    below =
        let few = few_devices_lem order.devices in
        let most : lowest s t ≤ s.wiring.n = first_low _ _ in
        elim (dec_lt p s.wiring.n) [ yes y ↦ rw low y | no g ↦ let z = kept_unused _ _ k p (omega arith) (none_rows (omega arith)) in absurd (omega arith) ]

    target_in : in_wake s t t ≡ true
    target_in =
        let m = (first_lowest s order t l below).member in
        (wake_iff s order t l t).1 (self (elim (dec_lt (status_at s t) 2) [ yes y ↦ y | no g ↦ absurd (powered_empty (omega arith) m) ]))

    pub clear_both : (found : Bool) → found ≡ others_barred s t → (not found and not (barred s t)) ≡ members_clear s t
    clear_both true e = clear_not (sym e)
    clear_both false e = clear_if l target_in (sym e)

    -- the whole test, where all but its two last parts passed
    pub resume_last : {o b f : Bool} → o ≡ steady_but s (Some p) → b ≡ barred s t → f ≡ others_barred s t → (o and (not f and not b)) ≡ resume_open_test s p t
    unfolding resume_open_test steady_but others_steady
    resume_last {o} {b} {f} eo eb ef =
        and_go (lt-ltb _ _ l) (and_go (eq-eqb _ _ low) (and_go (eq-eqb _ _ turned) (rw (← clear_both f ef, ← eb, eo))))

-- ---- with one device left out, or none
pub steady_all : (s : State) → steady_but s None ≡ all_steady s
unfolding steady_but all_steady
steady_all s = refl

pub steady_others : (s : State) (p : ℕ) → steady_but s (Some p) ≡ others_steady s p
unfolding steady_but others_steady
steady_others s p = refl

-- ---- by the callback's kind
module _ (s : State) where
  pub kind_none : s.callback.kind ≡ 0 → none_test s ≡ callback_test s
  unfolding callback_test when◌then◌else◌
  kind_none e = rw (eq-eqb s.callback.kind 0 e)

  pub kind_suspend : s.callback.kind ≡ 1 → open_test SUSPENDING (Some s.callback.asked) s s.callback.asked ≡ callback_test s
  unfolding callback_test suspend_open_test open_test steady_but others_steady when◌then◌else◌
  kind_suspend e = rw (ne_eqb s.callback.kind 0 (λ z. omega arith), eq-eqb s.callback.kind 1 e)

  pub kind_resume : s.callback.kind ≡ 2 → resume_open_test s s.callback.asked s.callback.target ≡ callback_test s
  unfolding callback_test when◌then◌else◌
  kind_resume e = rw (ne_eqb s.callback.kind 0 (λ z. omega arith), ne_eqb s.callback.kind 1 (λ z. omega arith), eq-eqb s.callback.kind 2 e)

  pub kind_idle : s.callback.kind ≡ 3 → open_test ACTIVE None s s.callback.asked ≡ callback_test s
  unfolding callback_test idle_open_test open_test steady_but all_steady when◌then◌else◌
  kind_idle e = rw (ne_eqb s.callback.kind 0 (λ z. omega arith), ne_eqb s.callback.kind 1 (λ z. omega arith), ne_eqb s.callback.kind 2 (λ z. omega arith), eq-eqb s.callback.kind 3 e)

  pub kind_other : (s.callback.kind ≡ 0 → ⊥) → (s.callback.kind ≡ 1 → ⊥) → (s.callback.kind ≡ 2 → ⊥) → (s.callback.kind ≡ 3 → ⊥) → false ≡ callback_test s
  unfolding callback_test when◌then◌else◌
  kind_other a b c d = rw (ne_eqb s.callback.kind 0 a, ne_eqb s.callback.kind 1 b, ne_eqb s.callback.kind 2 c, ne_eqb s.callback.kind 3 d)
