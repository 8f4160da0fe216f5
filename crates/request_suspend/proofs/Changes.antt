-- A chain of tests as one code, kind 6 as a put and what follows, and a suspend callback's result as three changes of the state. Assumes nothing.
use mathlib.Core.Path.{◌≡◌, refl, ◌∙◌, ap, subst}
use mathlib.Core.Bool.{Bool, true, false, not}
use mathlib.Core.List.{List}
use Prim.Native.Nat.{ℕ, ◌+◌, ◌<◌, ◌≤◌}
use native.Mathlib.Omega.{arith}
use native.Mathlib.Decide.{ℕ_discrete, dec_lt}
use lib.Dec.{ltb, eqb}
use borrow.Author.Tests.{lt-ltb, le-ltb, eq-eqb, eqb-true}
use Rattle.model.specs.Limits.{EAGAIN, minus}
use Rattle.model.specs.Logic.{when◌then◌else◌, ◌and◌, ◌or◌}
use Rattle.model.specs.State.{State, SUSPENDED, ACTIVE, status_at, holds_at, linked_at, usage, with_status, with_callback, with_error}
use Rattle.model.specs.Records.{Done, finished, ask}
use Rattle.model.specs.Requests.{suspend_test, idle, put, idle_unused, put_idle, ask_suspend, suspend}
use Rattle.model.specs.Steps.{suspend_result}
use Rattle.model.proofs.Basics.{and_parts, or_none}
use Rattle.model.proofs.Logic.{not_fails}
use Rattle.memory.specs.Layout.{state_in}
use Rattle.memory.proofs.Readiness.{stays_full}
use Rattle.request_answer.specs.declared.Reply.{Reply}
use Rattle.request_answer.specs.Promises.{Leads, LeadsBy, magnitude}
use Rattle.request_hold.proofs.Chained.{held_stop, held_go, put_stays}
use Rattle.request_suspend.specs.Parts.{passing, settled}
use Rattle.request_suspend.specs.Sleeps.{PutFirst, still_used, LetsSleep}

-- ---- two tests as one code: the first that is not 0 stops, and with none the request goes on
module _ (stop : ℕ → Done) (on : Done) (t d : ℕ) {code : ℕ} (chosen : code ≡ (when ltb 0 t then t else d)) where
  stops : 0 < code → (when ltb 0 t then stop t else when ltb 0 d then stop d else on) ≡ stop code
  unfolding when◌then◌else◌
  stops l =
      elim (dec_lt 0 t) [
        | yes y ↦ let e = rw (lt-ltb 0 t y) at chosen in rw (lt-ltb 0 t y, e)
        | no g ↦ let e = rw (le-ltb 0 t (omega arith)) at chosen in rw (le-ltb 0 t (omega arith), lt-ltb 0 d (rw e at l), e)
      ]

  goes : code ≤ 0 → (when ltb 0 t then stop t else when ltb 0 d then stop d else on) ≡ on
  unfolding when◌then◌else◌
  goes l =
      elim (dec_lt 0 t) [
        | yes y ↦ let e = rw (lt-ltb 0 t y) at chosen in absurd (omega arith)
        | no g ↦ let e = rw (le-ltb 0 t (omega arith)) at chosen in rw (le-ltb 0 t (omega arith), le-ltb 0 d (rw e at l))
      ]

-- kinds 7 and 8 so: the suspend test's code, then what the kind asks of the status
abbrev awake : State → ℕ → Bool
awake s p = eqb (status_at s p) ACTIVE

abbrev asleep : State → ℕ → Bool
asleep s p = eqb (status_at s p) SUSPENDED

abbrev needs_awake : Bool → ℕ
needs_awake a = when a then 0 else minus EAGAIN

abbrev refuses_asleep : Bool → ℕ
refuses_asleep a = when a then 1 else 0

unfoldable pub rest_code : State → ℕ → Bool → ℕ
rest_code s p idles =
    when ltb 0 (suspend_test s p) then suspend_test s p
    else when idles then needs_awake (awake s p)
    else refuses_asleep (asleep s p)

module _ (s : State) (p : ℕ) where
  pub code_of : {code t d a b : ℕ} (idles : Bool) → t ≡ suspend_test s p → a ≡ needs_awake (awake s p) → b ≡ refuses_asleep (asleep s p)
      → d ≡ (when idles then a else b) → code ≡ (when ltb 0 t then t else d) → code ≡ rest_code s p idles
  unfolding rest_code
  code_of idles test waking sleeping asked chosen = rw (chosen, test, asked, waking, sleeping)

  abbrev asks_idle : Done
  asks_idle = ask (with_callback s 3 p p) 3 p

  -- the tests as a chain
  abbrev chain : ℕ → Done → Done
  chain d on = when ltb 0 (suspend_test s p) then finished s p (suspend_test s p) else when ltb 0 d then finished s p d else on

  idle_form : idle s p ≡ chain (needs_awake (awake s p)) asks_idle
  unfolding idle when◌then◌else◌
  idle_form = go (awake s p)
    where
      go : (a : Bool) → (when ltb 0 (suspend_test s p) then finished s p (suspend_test s p) else when not a then finished s p (minus EAGAIN) else asks_idle)
          ≡ chain (needs_awake a) asks_idle
      go true = refl
      go false = refl

  suspend_form : suspend s p ≡ chain (refuses_asleep (asleep s p)) (ask_suspend s p)
  unfolding suspend when◌then◌else◌
  suspend_form = go (asleep s p)
    where
      go : (a : Bool) → (when ltb 0 (suspend_test s p) then finished s p (suspend_test s p) else when a then finished s p 1 else ask_suspend s p)
          ≡ chain (refuses_asleep a) (ask_suspend s p)
      go true = refl
      go false = refl

  module _ {code : ℕ} {idles : Bool} (is : code ≡ rest_code s p idles) where
    abbrev of : {b : Bool} → idles ≡ b → code ≡ rest_code s p b
    of e = is ∙ ap (rest_code s p) e

    pub idle_stops : idles ≡ true → 0 < code → idle s p ≡ finished s p code
    unfolding rest_code when◌then◌else◌
    idle_stops e l = idle_form ∙ stops (λ x. finished s p x) asks_idle (suspend_test s p) (needs_awake (awake s p)) (of e) l

    pub idle_asks : idles ≡ true → code ≤ 0 → idle s p ≡ asks_idle
    unfolding rest_code when◌then◌else◌
    idle_asks e l = idle_form ∙ goes (λ x. finished s p x) asks_idle (suspend_test s p) (needs_awake (awake s p)) (of e) l

    pub suspend_stops : idles ≡ false → 0 < code → suspend s p ≡ finished s p code
    unfolding rest_code when◌then◌else◌
    suspend_stops e l = suspend_form ∙ stops (λ x. finished s p x) (ask_suspend s p) (suspend_test s p) (refuses_asleep (asleep s p)) (of e) l

    pub suspend_asks : idles ≡ false → code ≤ 0 → suspend s p ≡ ask_suspend s p
    unfolding rest_code when◌then◌else◌
    suspend_asks e l = suspend_form ∙ goes (λ x. finished s p x) (ask_suspend s p) (suspend_test s p) (refuses_asleep (asleep s p)) (of e) l

-- ---- kinds 6, 7 and 8
-- a put of -75 ends kind 6
put_stops : (s u : State) (p : ℕ) {code : ℕ} → put s p ≡ finished u p code → (code ≡ 0 → ⊥) → put_idle s p ≡ finished u p code
unfolding put put_idle
put_stops s u p e ne = held_stop _ _ _ _ _ (λ s. idle_unused s p) _ e ne

-- any other is followed by an idle of an unused device
put_goes : (bytes₀ words₀ words₁ : List ℕ) {bytes words : List ℕ} {p code : ℕ} {r : Reply}
    → put (state_in bytes₀ words₀) p ≡ finished (state_in bytes₀ words₁) p code → code ≡ 0
    → Leads idle_unused bytes₀ words₁ p bytes words r → Leads put_idle bytes₀ words₀ p bytes words r
unfolding put put_idle
put_goes bytes₀ words₀ words₁ {p = p} e z on =
    let start = state_in bytes₀ words₀ in
    record { is = λ h. held_go _ _ _ _ _ (λ s. idle_unused s p) _ e z ∙ on.is (stays_full bytes₀ words₀ bytes₀ words₁ (put_stays start _ _ _ e) h) }

-- which is finished with 0 while the device is in use
used_stops : (s : State) (p : ℕ) → ltb 0 (usage s p) ≡ true → idle_unused s p ≡ finished s p 0
unfolding idle_unused when◌then◌else◌
used_stops s p e = rw e

-- and else an idle
unused_idles : (s : State) (p : ℕ) → ltb 0 (usage s p) ≡ false → idle_unused s p ≡ idle s p
unfolding idle_unused when◌then◌else◌
unused_idles s p e = rw e

-- the device is in use: the sum of the two counts that are read
pub used_by : (kind p : ℕ) {held consumers uses : ℕ} (s : State) → held ≡ holds_at s p → consumers ≡ linked_at s p → uses ≡ held + consumers
    → (eqb kind 6 and ltb 0 uses) ≡ still_used kind s p
unfolding still_used
used_by kind p s h c sum = rw (sum, h, c)

-- kind 6 goes no further: the put was -75, or the device is in use
abbrev pub ends : ℕ → State → ℕ → ℕ → Bool
ends kind s p code = not (eqb code 0) or still_used kind s p

-- what follows the put: an idle or a suspend, from where it left the words
pub record Rests (idles : Bool) (first bytes₀ words₀ : List ℕ) (p : ℕ) (bytes words : List ℕ) (r : Reply) : Type 0 where
  pub idling : idles ≡ true → Leads idle bytes₀ words₀ p bytes words r
  pub suspending : idles ≡ false → LeadsBy suspend first bytes₀ words₀ p bytes words r

module _ {kind p code : ℕ} {first bytes₀ words₀ words₁ : List ℕ} (begun : PutFirst kind words₀ p words₁ code) where
  as_put : {bytes words : List ℕ} {r : Reply} → kind ≡ 6 → Leads put_idle bytes₀ words₀ p bytes words r → LetsSleep kind first bytes₀ words₀ p bytes words r
  as_put e on = record { putting = λ f. on; idling = λ n l. absurd (n e); suspending = λ l. absurd (omega arith) }

  -- kind 6 ends with its put
  pub slept_stop : (r : Reply) → r ≡ record { kind = 0; device = p; code = code } → ends kind (state_in bytes₀ words₁) p code ≡ true
      → LetsSleep kind first bytes₀ words₀ p bytes₀ words₁ r
  unfolding still_used
  slept_stop r told stop =
      elim (ℕ_discrete code 0) [
        | yes z ↦
            let used = and_parts _ _ (rw (eq-eqb code 0 z) at stop) in
            let six = eqb-true _ _ used.0 in
            as_put six (put_goes bytes₀ words₀ words₁ (begun.puts six bytes₀) z (record { is = λ h. rw (told, z) (used_stops _ p used.1) }))
        | no ne ↦
            elim (ℕ_discrete kind 6) [
              | yes six ↦ as_put six (record { is = λ h. rw told (put_stops _ _ _ (begun.puts six bytes₀) ne) })
              | no n ↦ absurd (ne (begun.none n).1)
            ]
      ]

  -- it goes on, and so do the kinds without a put
  pub slept_go : {bytes words : List ℕ} {r : Reply} → ends kind (state_in bytes₀ words₁) p code ≡ false
      → Rests (ltb kind 8) first bytes₀ words₁ p bytes words r → LetsSleep kind first bytes₀ words₀ p bytes words r
  unfolding still_used
  slept_go {bytes} {words} {r} going on =
      let free = or_none (not (eqb code 0)) (still_used kind (state_in bytes₀ words₁) p) going in
      elim (ℕ_discrete kind 6) [
        | yes six ↦
            let unused = rw (eq-eqb kind 6 six) at free.1 in
            let idles = on.idling (lt-ltb kind 8 (omega arith)) in
            as_put six (put_goes bytes₀ words₀ words₁ (begun.puts six bytes₀) (eqb-true _ _ ((not_fails _).0 free.0)) (record { is = λ h. unused_idles _ p unused ∙ idles.is h }))
        | no n ↦
            let same = subst (λ (w : List ℕ). Rests (ltb kind 8) first bytes₀ w p bytes words r) (begun.none n).0 on in
            record { putting = λ e. absurd (n e); idling = λ m l. same.idling (lt-ltb kind 8 l); suspending = λ l. same.suspending (le-ltb kind 8 l) }
      ]

-- ---- a suspend callback's result
module _ (s : State) (p v : ℕ) {a b : State} {z : ℕ} (set : a ≡ with_status s p z) (close : b ≡ with_callback a 0 0 0) (status : z ≡ settled v) where
  pub result_0 : eqb v 0 ≡ true → suspend_result s p v ≡ finished b p 0
  unfolding suspend_result settled when◌then◌else◌
  result_0 e = rw (close, set, status, e)

  pub result_passing : eqb v 0 ≡ false → passing v ≡ true → suspend_result s p v ≡ finished b p v
  unfolding suspend_result settled passing when◌then◌else◌
  result_passing e f = rw (close, set, status, e, f)

  pub result_kept : {c : State} {m : ℕ} → eqb v 0 ≡ false → passing v ≡ false → c ≡ with_error b p m → m ≡ magnitude v → suspend_result s p v ≡ finished c p v
  unfolding suspend_result settled passing magnitude when◌then◌else◌
  result_kept e f keep size = rw (keep, close, set, status, size, e, f)
