-- Runs of the plain keeper: soundness, how many replies, one run after another, and what the holds come to. Assumes nothing.
use mathlib.Core.Path.{◌≡◌, refl, sym, ◌∙◌, ap}
use mathlib.Core.Bool.{Bool, true, false}
use mathlib.Core.List.{List, [], ◌∷◌, ◌++◌, append_assoc}
use mathlib.Core.Logic.{◌⊎◌, ⊎_elim}
use Prim.Native.Nat.{ℕ, zero, suc, ◌<◌, ◌≤◌, ◌+◌, ◌-◌, ◌*◌, ◌/◌, ◌%◌}
use native.Mathlib.Omega.{arith}
use native.Mathlib.Decide.{ℕ_discrete}
use lib.ListN.{length, get_or, set, length-set, length-append, replicate}
use lib.Seq.{get_or-set_same, get_or-set_other}
use lib.Dec.{eqb}
use borrow.Author.Tests.{ltb-true, ltb-false, eqb-false, eq-eqb, ne_eqb}
use Rattle.model.specs.Logic.{◌and◌, ◌or◌, bit}
use Rattle.model.specs.State.{State, Carry, holds_at, with_holds, with_carry}
use Rattle.model.specs.Records.{Rec, Done, finished}
use Rattle.model.specs.Requests.{get, put, suspend_test, idle, ask_resume, wake, get_wake, idle_unused, put_idle}
use Rattle.model.specs.Steps.{Exchange, Run, fourth, none_wait, record_step, byte_step, run}
use Rattle.model.specs.Sound.{Carried, Sound}
use Rattle.model.specs.Demand3.{is_get, is_put, effective, counted}
use Rattle.model.proofs.Basics.{by_if, at_set}
use Rattle.model.proofs.Logic.{tests}
use Rattle.model.proofs.Keeping.{room, callback_carry}
use Rattle.model.proofs.Steps.{by_kind, by_record}
use Rattle.model.proofs.Setters.{Stable, but_holds, on_idle, on_wake, on_result, carry_kept}
use Rattle.model.proofs.Records.{record_sound}

-- ---- soundness over bytes
pub sound_carry : {s : State} → Sound s → (bytes : List ℕ) (used : ℕ) → Carried (record { bytes = bytes; used = used }) → Sound (with_carry s bytes used)
sound_carry h b u c = record { kept = h.kept; carried = c; callback = callback_carry b u h.callback }

pub nothing_carried : Carried (record { bytes = replicate 3 0; used = 0 })
nothing_carried = record { few = omega arith; long = refl; unused = zeros }
  where
    zeros : (p : ℕ) → 0 ≤ p → ◌≡◌ {A = ℕ} (get_or (replicate 3 0) p 0) 0
    zeros zero h = refl
    zeros (suc zero) h = refl
    zeros (suc (suc zero)) h = refl
    zeros (suc (suc (suc p))) h = refl

one_more : (c : Carry) (b : ℕ) → c.used < 3 → Carried c → Carried (record { bytes = set c.bytes c.used b; used = c.used + 1 })
one_more c b h f =
    let l = f.long in
    record {
      few = omega arith;
      long = length-set c.bytes c.used b ∙ l;
      unused =
          at_set (λ q x. c.used + 1 ≤ q → x ≡ 0) c.bytes c.used b (omega arith) (λ z. absurd (omega arith))
          (λ q ne z. f.unused q (omega arith));
    }

waits_none : {s : State} → Sound s → Sound (none_wait s)
waits_none h = sound_carry h (replicate 3 0) 0 nothing_carried

pub byte_sound : {s : State} → Sound s → (b : ℕ) → Sound (byte_step s b).state
unfolding byte_step
byte_sound {s} h b =
    by_if (λ (f : Run). Sound f.state) _ _ _
    (λ e. sound_carry h _ _ (one_more s.carry b (ltb-true s.carry.used 3 e) h.carried))
    (λ e. record_sound (waits_none h) (fourth s b))

pub run_sound : (s : State) (bs : List ℕ) → Sound s → Sound (run s bs).state
unfolding run
run_sound s [] h = h
run_sound s (b ∷ bs) h = run_sound (byte_step s b).state bs (byte_sound h b)

-- ---- how many replies, and how many bytes wait
byte_count : {s : State} → Sound s → (b : ℕ) → 4 * length (byte_step s b).log + (byte_step s b).state.carry.used ≡ s.carry.used + 1
unfolding byte_step
byte_count {s} h b =
    by_if (λ (f : Run). 4 * length f.log + f.state.carry.used ≡ s.carry.used + 1) _ _ _ (λ e. omega arith)
    (λ e.
    let w = ap (λ (c : Carry). c.used) (carry_kept (none_wait s) (fourth s b)) in
    let f = h.carried.few in
    let g = ltb-false s.carry.used 3 e in
    rw w (omega arith))

run_count : (s : State) (bs : List ℕ) → Sound s → 4 * length (run s bs).log + (run s bs).state.carry.used ≡ s.carry.used + length bs
unfolding run
run_count s [] h = omega arith
run_count s (b ∷ bs) h =
    let f = byte_step s b in
    rw (length-append f.log (run f.state bs).log) (omega (arith, run_count f.state bs (byte_sound h b), byte_count h b))

-- c carried bytes and p new ones give (c + p) / 4 replies, and the rest waits
pub replies_many : (s : State) (bs : List ℕ) → Sound s → length (run s bs).log ≡ (s.carry.used + length bs) / 4
replies_many s bs h = let f = run_count s bs h in let w = (run_sound s bs h).carried.few in omega arith

pub rest_waits : (s : State) (bs : List ℕ) → Sound s → (run s bs).state.carry.used ≡ (s.carry.used + length bs) % 4
rest_waits s bs h = let f = run_count s bs h in let w = (run_sound s bs h).carried.few in omega arith

-- ---- one run after another
pub run_joined : (s : State) (a b : List ℕ) → ((run s (a ++ b)).state ≡ (run (run s a).state b).state) × ((run s (a ++ b)).log ≡ (run s a).log ++ (run (run s a).state b).log)
unfolding run
run_joined s [] b = (refl, refl)
run_joined s (x ∷ a) b =
    let f = run_joined (byte_step s x).state a b in
    (f.0, ap (λ (l : List Exchange). (byte_step s x).log ++ l) f.1 ∙ sym (append_assoc (byte_step s x).log (run (byte_step s x).state a).log _))

-- ---- what one record does to the holds
-- new holds with what is counted down are old holds with what is counted up
record Moves (s : State) (p : ℕ) (up dn : Bool) (d : Done) : Type 0 where
  at : (q : ℕ) → holds_at d.state q + bit (eqb p q and dn and effective d.reply) ≡ holds_at s q + bit (eqb p q and up and effective d.reply)

and_false : (x : Bool) → x and false ≡ false
and_false true = refl
and_false false = refl

-- neither a get nor a put
plain : {s : State} (p : ℕ) (d : Done) → d.state.devices.holds ≡ s.devices.holds → Moves s p false false d
plain p d e = record { at = λ q. rw (e, and_false (eqb p q)) }

-- a reply that does not count
idle_reply : {s : State} (p : ℕ) (up dn : Bool) (d : Done) → d.state.devices.holds ≡ s.devices.holds → effective d.reply ≡ false → Moves s p up dn d
idle_reply p up dn d e f = record { at = λ q. rw (e, f, and_false up, and_false dn, and_false (eqb p q)) }

module _ {s : State} (p : ℕ) (l : p < length s.devices.holds) (d : Done) (t : effective d.reply ≡ true) where
  -- the holds of p become v, up or down by one
  moved : (v : ℕ) (up dn : Bool) → v + bit dn ≡ holds_at s p + bit up → d.state.devices.holds ≡ set s.devices.holds p v → Moves s p up dn d
  moved v up dn h e =
      record {
        at = λ q. rw (e, t, and_true up, and_true dn)
            (elim (ℕ_discrete q p) [
              | yes y ↦ rw (y, get_or-set_same s.devices.holds p v 0 l, eq-eqb p p refl) h
              | no ne ↦ rw (get_or-set_other s.devices.holds p q v 0 ne, ne_eqb p q (λ y. ne (sym y)))
            ]);
      }
    where
      and_true : (x : Bool) → x and true ≡ x
      and_true true = refl
      and_true false = refl

-- ---- every kind but 3 to 6 leaves the holds; a wake and an idle are never answered -75 or -115
abbrev Same : State → State → Type 0
Same s t = t.devices.holds ≡ s.devices.holds

same_stable : (s : State) → Stable (Same s)
same_stable s = record { status = λ p v e. e; depth = λ p v e. e; error = λ p v e. e; ignore = λ p v e. e; opened = λ k a t e. e }

abbrev Counts : Done → Type 0
Counts d = effective d.reply ≡ true

wake_counts : (s : State) (p : ℕ) → Counts (wake s p)
unfolding wake ask_resume effective
wake_counts s p = by_if Counts _ _ _ (λ e. refl) (λ e. by_if Counts _ _ _ (λ e. refl) (λ e. by_if Counts _ _ _ (λ e. refl) (λ e. by_if Counts _ _ _ (λ e. refl) (λ e. refl))))

idle_counts : (s : State) (p : ℕ) → Counts (idle s p)
unfolding idle suspend_test effective
idle_counts s p = by_if Counts _ _ _ (λ e. test) (λ e. by_if Counts _ _ _ (λ e. refl) (λ e. refl))
  where
    Code : ℕ → Type 0
    Code x = Counts (finished s p x)

    test : Code (suspend_test s p)
    test = by_if Code _ _ _ (λ e. refl) (λ e. by_if Code _ _ _ (λ e. refl) (λ e. by_if Code _ _ _ (λ e. refl) (λ e. by_if Code _ _ _ (λ e. refl) (λ e. refl))))

-- ---- every record
module _ {s : State} (h : Sound s) (p : ℕ) (l : p < s.wiring.n) where
  row : p < length s.devices.holds
  row = let r = room s h.kept in let z = h.kept.holds.long in omega arith

  moves_get : Moves s p true false (get s p)
  unfolding get effective
  moves_get = by_if (Moves s p true false) _ _ _ (λ e. idle_reply p true false _ refl refl) (λ e. moved p row _ refl _ true false (omega arith) refl)

  moves_get_wake : Moves s p true false (get_wake s p)
  unfolding get_wake effective
  moves_get_wake =
      by_if (Moves s p true false) _ _ _ (λ e. idle_reply p true false _ refl refl)
      (λ e.
      let t = with_holds s p (holds_at s p + 1) in
      moved p row _ (wake_counts t p) _ true false (omega arith) (on_wake (Same t) (same_stable t) refl p))

  moves_put : Moves s p false true (put s p)
  unfolding put effective
  moves_put =
      by_if (Moves s p false true) _ _ _ (λ e. idle_reply p false true _ refl refl)
      (λ e. let z = eqb-false (holds_at s p) 0 e in moved p row _ refl _ false true (omega arith) refl)

  moves_put_idle : Moves s p false true (put_idle s p)
  unfolding put_idle idle_unused effective
  moves_put_idle =
      by_if (Moves s p false true) _ _ _ (λ e. idle_reply p false true _ refl refl)
      (λ e.
      let z = eqb-false (holds_at s p) 0 e in
      let t = with_holds s p (holds_at s p - 1) in
      by_if (Moves s p false true) _ _ _ (λ u. moved p row _ refl _ false true (omega arith) refl)
      (λ u. moved p row _ (idle_counts t p) _ false true (omega arith) (on_idle (Same t) (same_stable t) refl p)))

  -- a kind that is none of 3 to 6
  others : (kind : ℕ) → kind < 3 ⊎ 7 ≤ kind → (d : Done) → Same s d.state → Moves s p (is_get kind) (is_put kind) d
  others kind c d e = rw (neither 3 4 (omega arith) (omega arith), neither 5 6 (omega arith) (omega arith)) (plain p d e)
    where
      apart : (k : ℕ) → 3 ≤ k → k < 7 → kind ≡ k → ⊥
      apart k a b y = ⊎_elim (λ (z : kind < 3). omega arith) (λ (z : 7 ≤ kind). omega arith) c

      neither : (a b : ℕ) → (3 ≤ a) × (a < 7) → (3 ≤ b) × (b < 7) → eqb kind a or eqb kind b ≡ false
      neither a b f g = simp tests (apart a f.0 f.1, apart b g.0 g.1)

moves_record : {s : State} → Sound s → (r : Rec) → Moves s r.device (is_get r.kind) (is_put r.kind) (record_step s r)
unfolding effective
moves_record {s} h r =
    let p = r.device in
    by_record (Moves s p (is_get r.kind) (is_put r.kind))
    (record {
      refuses = λ number. idle_reply p _ _ _ refl refl;
      results = λ k a o q. rw k (plain p _ (on_result (Same s) (same_stable s) refl p r.value));
      busy = idle_reply p _ _ _ refl refl;
      requests =
          λ f ne o.
          let l = f.known in
          by_kind (λ kind. Moves s p (is_get kind) (is_put kind))
          (but_holds (Same s) (same_stable s) refl p r.value _ (others h p l) (moves_get h p l) (moves_get_wake h p l) (moves_put h p l)
          (moves_put_idle h p l))
          r.kind f.low f.high ne f.fits;
    })

-- ---- holds over a run: holds and counted puts are the holds at the start and counted gets
counted_joined : (kinds : ℕ → Bool) (q : ℕ) (a b : List Exchange) → counted kinds q (a ++ b) ≡ counted kinds q a + counted kinds q b
unfolding counted
counted_joined kinds q [] b = omega arith
counted_joined kinds q (e ∷ a) b = let i = counted_joined kinds q a b in omega arith

holds_byte : {s : State} → Sound s → (b q : ℕ) → holds_at (byte_step s b).state q + counted is_put q (byte_step s b).log ≡ holds_at s q + counted is_get q (byte_step s b).log
unfolding byte_step counted
holds_byte {s} h b q =
    by_if (λ (f : Run). holds_at f.state q + counted is_put q f.log ≡ holds_at s q + counted is_get q f.log) _ _ _ (λ e. refl)
    (λ e. let m = (moves_record (waits_none h) (fourth s b)).at q in omega arith)

pub holds_run : (s : State) (bs : List ℕ) (q : ℕ) → Sound s → holds_at (run s bs).state q + counted is_put q (run s bs).log ≡ holds_at s q + counted is_get q (run s bs).log
unfolding run counted
holds_run s [] q h = refl
holds_run s (b ∷ bs) q h =
    let f = byte_step s b in
    let g = run (byte_step s b).state bs in
    rw (counted_joined is_put q f.log g.log, counted_joined is_get q f.log g.log)
    (omega (arith, holds_run (byte_step s b).state bs q (byte_sound h b), holds_byte h b q))
