-- The lowest member sleeps; a wake, a resume callback's result and a get as changes of the state, whatever the states are. Assumes nothing.
use mathlib.Core.Path.{◌≡◌, subst}
use mathlib.Core.Bool.{true, false}
use mathlib.Core.List.{List}
use Prim.Native.Nat.{ℕ, ◌<◌}
use native.Mathlib.Omega.{arith}
use native.Mathlib.Decide.{dec_lt}
use lib.Dec.{eqb, ltb}
use Rattle.std.specs.Prelude.{Option}
use Rattle.std.specs.Option.{unwrap_or}
use Rattle.model.specs.Limits.{EACCES, EBUSY, EINVAL, minus}
use Rattle.model.specs.Logic.{when◌then◌else◌}
use Rattle.model.specs.State.{State, SUSPENDED, ACTIVE, status_at, error_at, depth_at, with_status, with_callback, with_error}
use Rattle.model.specs.WakeSet.{lowest}
use Rattle.model.specs.Records.{Done, finished}
use Rattle.model.specs.Requests.{get, others_barred, ask_resume, wake}
use Rattle.model.specs.Steps.{go_on, resume_result}
use Rattle.model.proofs.Basics.{by_if}
use Rattle.model.proofs.WakeSet.{member_asleep, first_lowest}
use Rattle.memory.specs.Ready.{Ready}
use Rattle.memory.proofs.Readiness.{ready_status, ready_closed, ready_holds}
use Rattle.memory.specs.Layout.{state_in}
use Rattle.links.specs.Firsts.{Indexed}
use Rattle.wakeset.specs.Marks.{IsLowest, FindsLowest}
use Rattle.wakeset.proofs.Members.{finds_lowest}
use Rattle.request_answer.specs.Promises.{magnitude}
use Rattle.request_wake.specs.Wakes.{resume_of, failed}

-- the lowest member of a wake set sleeps; where there is none, so does row n
pub lowest_asleep : {s : State} → Ready s → (t : ℕ) → t < s.wiring.n → status_at s (lowest s t) < ACTIVE
unfolding lowest
lowest_asleep {s} h t l =
    elim (dec_lt (lowest s t) s.wiring.n) [
      | yes y ↦ member_asleep (first_lowest s h.rules.order t l y).member
      | no g ↦ let z = h.statuses.unused (lowest s t) (omega arith) in omega arith
    ]

-- what is found as an Option, n where nothing is found, is the lowest member as a number
pub lowest_or : {bytes first : List ℕ} {t n r : ℕ} (found : Option ℕ) → ((words : List ℕ) → n ≡ (state_in bytes words).wiring.n)
    → FindsLowest bytes first t found → r ≡ unwrap_or found n → IsLowest bytes first t r
lowest_or found e f h = rw h (finds_lowest found e f)

-- ---- kind 9, test by test
-- p has no error and is enabled
pub record Clear (s : State) (p : ℕ) : Type 0 where
  pub error : ltb 0 (error_at s p) ≡ false
  pub depth : ltb 0 (depth_at s p) ≡ false

module _ (s : State) (p : ℕ) where
  pub wake_error : ltb 0 (error_at s p) ≡ true → wake s p ≡ finished s p (minus EINVAL)
  unfolding wake when◌then◌else◌
  wake_error y = rw y

  pub wake_disabled : ltb 0 (error_at s p) ≡ false → ltb 0 (depth_at s p) ≡ true → wake s p ≡ finished s p (minus EACCES)
  unfolding wake when◌then◌else◌
  wake_disabled n y = rw (n, y)

  pub wake_active : Clear s p → eqb (status_at s p) ACTIVE ≡ true → wake s p ≡ finished s p 1
  unfolding wake when◌then◌else◌
  wake_active c y = rw (c.error, c.depth, y)

  pub wake_barred : Clear s p → eqb (status_at s p) ACTIVE ≡ false → others_barred s p ≡ true → wake s p ≡ finished s p (minus EBUSY)
  unfolding wake when◌then◌else◌
  wake_barred c n y = rw (c.error, c.depth, n, y)

  pub wake_asks : {low : ℕ} → Clear s p → eqb (status_at s p) ACTIVE ≡ false → others_barred s p ≡ false → low ≡ lowest s p → wake s p ≡ resume_of s low p
  unfolding wake ask_resume resume_of when◌then◌else◌
  wake_asks c n m e = rw (c.error, c.depth, n, m, e)

-- ---- the next member, or none
module _ (s : State) (t : ℕ) {low : ℕ} (e : low ≡ lowest s t) where
  pub goes_done : ltb low s.wiring.n ≡ false → go_on s t ≡ finished s t 0
  unfolding go_on when◌then◌else◌
  goes_done n = rw (← e, n)

  pub goes_asks : ltb low s.wiring.n ≡ true → go_on s t ≡ resume_of s low t
  unfolding go_on ask_resume resume_of when◌then◌else◌
  goes_asks y = rw (← e, y)

-- ---- the result v of p's resume callback, for the wake of t
module _ (s : State) (p t v : ℕ) {a b : State} where
  pub result_goes : a ≡ with_status s p ACTIVE → b ≡ with_callback a 0 0 0 → eqb v 0 ≡ true → resume_result s p t v ≡ go_on b t
  unfolding resume_result when◌then◌else◌
  result_goes set close e = rw (close, set, e)

  pub result_failed : {c : State} {m code : ℕ} → a ≡ with_status s p SUSPENDED → b ≡ with_callback a 0 0 0 → c ≡ with_error b p m →
      m ≡ magnitude v → code ≡ failed p t v → eqb v 0 ≡ false → resume_result s p t v ≡ finished c t code
  unfolding resume_result magnitude failed when◌then◌else◌
  result_failed set close keep size told e = rw (told, keep, close, set, size, e)

  -- what go_on asks of the state that it starts from
  pub goes_indexed : {first : List ℕ} → p < s.wiring.n → Indexed s first → a ≡ with_status s p ACTIVE → b ≡ with_callback a 0 0 0 → Indexed b first
  goes_indexed l h set close = rw (close, set) (record { ready = ready_closed (ready_status p ACTIVE l (omega arith) h.ready); index = h.index })

  pub goes_target : t < s.wiring.n → a ≡ with_status s p ACTIVE → b ≡ with_callback a 0 0 0 → t < b.wiring.n
  goes_target l set close = rw (close, set) l

-- ---- what a get leaves is ready, with the same links and as many devices
module _ (s u : State) (p code : ℕ) (e : get s p ≡ finished u p code) where
  pub get_indexed : {first : List ℕ} → Indexed s first → Indexed u first
  unfolding get
  get_indexed {first} h =
      subst (λ (d : Done). Indexed d.state first) e
      (by_if (λ (d : Done). Indexed d.state first) _ _ _ (λ y. h)
      (λ n. record { ready = ready_holds p _ h.ready; index = h.index }))

  pub get_count : p < s.wiring.n → p < u.wiring.n
  unfolding get
  get_count l = subst (λ (d : Done). p < d.state.wiring.n) e (by_if (λ (d : Done). p < d.state.wiring.n) _ _ _ (λ y. l) (λ n. l))
