-- A whole record by what the code learnt, and the open callback from its number. Assumes nothing.
use Rattle.model.specs.Logic.{when◌then◌else◌}
use mathlib.Core.Path.{◌≡◌, refl, sym, ◌∙◌, ap}
use mathlib.Core.Bool.{true, false}
use Prim.Native.Nat.{ℕ, zero, suc, ◌<◌, ◌≤◌}
use native.Mathlib.Omega.{arith}
use lib.Dec.{eqb}
use borrow.Author.Tests.{eq-eqb, ne_eqb, lt-ltb, le-ltb}
use Rattle.model.specs.Limits.{EINPROGRESS, minus}
use Rattle.model.specs.State.{State}
use Rattle.model.specs.Records.{Rec, RESULT, finished, refused, fault}
use Rattle.model.specs.Steps.{result, suspend_result, resume_result, idle_result, result_step, request, busy, record_step}
use Rattle.model.proofs.Steps.{Formed, formed}
use Rattle.record_request.specs.Dispatch.{Requested}
use Rattle.std.specs.Prelude.{Option, Some, None}
use Rattle.record_kinds.specs.declared.Refusal.{Refusal}
use Rattle.record_kinds.specs.declared.Refusal.TheVariants as refusal
use Rattle.record_kinds.specs.Kinds.{refusal_of}
use Rattle.request_answer.specs.Promises.{callback_number}
use Rattle.request_answer.specs.declared.CallbackKind.{CallbackKind}
use Rattle.request_answer.specs.declared.CallbackKind.TheVariants.{Suspend, Resume, Idle}
use Rattle.record_step.specs.declared.Open.{Open}
use Rattle.record_step.specs.Records.{opened_as, open_in}

-- a refusal has a number
pub refusal_many : (r : Refusal) → 0 < refusal_of r
refusal_many refusal.Kind = omega arith
refusal_many refusal.Device = omega arith
refusal_many refusal.Value = omega arith

-- ---- a record by what the code learnt: how many devices there are, and the fault
module _ (s : State) (r : Rec) {n f : ℕ} (many : n ≡ s.wiring.n) (told : f ≡ fault n r) where
  fault_is : fault s.wiring.n r ≡ f
  fault_is = sym (told ∙ ap (λ x. fault x r) many)

  pub record_refused : 0 < f → record_step s r ≡ refused s r.device f
  unfolding record_step when◌then◌else◌
  record_refused l = rw (fault_is, lt-ltb 0 f l)

  module _ (fine : f ≤ 0) where
    pub well_formed : Formed s.wiring.n r
    well_formed = formed s.wiring.n r (rw fault_is fine)

    pub record_result : r.kind ≡ RESULT → record_step s r ≡ result_step s r.device r.value
    unfolding record_step when◌then◌else◌
    record_result e = rw (fault_is, le-ltb 0 f fine, eq-eqb r.kind RESULT e)

    module _ (ne : r.kind ≡ RESULT → ⊥) where
      pub is_request : Requested r.kind r.value
      is_request = let g = well_formed in record { low = g.low; high = g.high; other = ne; fits = g.fits }

      pub record_busy : busy s r.kind ≡ true → record_step s r ≡ finished s r.device (minus EINPROGRESS)
      unfolding record_step when◌then◌else◌
      record_busy o = rw (fault_is, le-ltb 0 f fine, ne_eqb r.kind RESULT ne, o)

      pub record_asks : busy s r.kind ≡ false → record_step s r ≡ request s r.kind r.device r.value
      unfolding record_step when◌then◌else◌
      record_asks o = rw (fault_is, le-ltb 0 f fine, ne_eqb r.kind RESULT ne, o)

-- ---- the open callback from its number
abbrev number_of : Option Open → ℕ
number_of None = 0
number_of (Some o) = callback_number o.kind

abbrev asked_of : Option Open → ℕ
asked_of None = 0
asked_of (Some o) = o.asked

abbrev target_of : Option Open → ℕ
target_of None = 0
target_of (Some o) = o.target

record Reads (k a g : ℕ) (o : Option Open) : Type 0 where
  zero_test : eqb k 0 ≡ eqb (number_of o) 0
  one_test : eqb k 1 ≡ eqb (number_of o) 1
  two_test : eqb k 2 ≡ eqb (number_of o) 2
  asked : (number_of o ≡ 0 → ⊥) → asked_of o ≡ a
  target : (number_of o ≡ 0 → ⊥) → target_of o ≡ g

reads : (k a g : ℕ) → Reads k a g (opened_as k a g)
unfolding opened_as when◌then◌else◌
reads zero a g = record { zero_test = refl; one_test = refl; two_test = refl; asked = λ ne. absurd (ne refl); target = λ ne. absurd (ne refl) }
reads (suc zero) a g = record { zero_test = refl; one_test = refl; two_test = refl; asked = λ ne. refl; target = λ ne. refl }
reads (suc (suc zero)) a g = record { zero_test = refl; one_test = refl; two_test = refl; asked = λ ne. refl; target = λ ne. refl }
reads (suc (suc (suc k))) a g =
    let x = ne_eqb (suc (suc (suc k))) 0 (λ e. omega arith) in
    let y = ne_eqb (suc (suc (suc k))) 1 (λ e. omega arith) in
    let z = ne_eqb (suc (suc (suc k))) 2 (λ e. omega arith) in
    record { zero_test = rw (x, y, z); one_test = rw (x, y, z); two_test = rw (x, y, z); asked = λ ne. rw (x, y, z); target = λ ne. rw (x, y, z) }

module _ (s : State) (p v : ℕ) where
  read : {o : Option Open} → o ≡ open_in s → Reads s.callback.kind s.callback.asked s.callback.target o
  read e = rw e (reads s.callback.kind s.callback.asked s.callback.target)

  pub result_none : None ≡ open_in s → result_step s p v ≡ refused s p 14
  unfolding result_step when◌then◌else◌
  result_none e = rw (read e).zero_test

  some : (k : CallbackKind) → callback_number k ≡ 0 → ⊥
  some Suspend e = omega arith
  some Resume e = omega arith
  some Idle e = omega arith

  module _ (k : CallbackKind) (q t : ℕ) (e : Some (record { kind = k; asked = q; target = t }) ≡ open_in s) where
    pub result_other : (p ≡ q → ⊥) → result_step s p v ≡ refused s p 15
    unfolding result_step when◌then◌else◌
    result_other ne =
        rw ((read e).zero_test, ne_eqb (callback_number k) 0 (some k), ne_eqb p s.callback.asked (λ z. ne (z ∙ sym ((read e).asked (some k)))))

    pub target_is : t ≡ s.callback.target
    target_is = (read e).target (some k)

    same : p ≡ q → eqb p s.callback.asked ≡ true
    same z = eq-eqb p s.callback.asked (z ∙ (read e).asked (some k))

  pub result_suspend : (q t : ℕ) → Some (record { kind = Suspend; asked = q; target = t }) ≡ open_in s → p ≡ q → result_step s p v ≡ suspend_result s q v
  unfolding result_step result when◌then◌else◌
  result_suspend q t e z = rw (← z, (read e).zero_test, same Suspend q t e z, (read e).one_test)

  pub result_resume : (q t : ℕ) → Some (record { kind = Resume; asked = q; target = t }) ≡ open_in s → p ≡ q → result_step s p v ≡ resume_result s q t v
  unfolding result_step result when◌then◌else◌
  result_resume q t e z = rw (← z, target_is Resume q t e, (read e).zero_test, same Resume q t e z, (read e).one_test, (read e).two_test)

  pub result_idle : (q t : ℕ) → Some (record { kind = Idle; asked = q; target = t }) ≡ open_in s → p ≡ q → result_step s p v ≡ idle_result s q v
  unfolding result_step result when◌then◌else◌
  result_idle q t e z = rw (← z, (read e).zero_test, same Idle q t e z, (read e).one_test, (read e).two_test)
