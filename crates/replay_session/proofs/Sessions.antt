-- Sessions by what was fed: nothing more, one piece, or all of a log. Assumes nothing.
use mathlib.Core.Path.{◌≡◌, refl, sym, ap, ◌∙◌}
use mathlib.Core.Bool.{Bool, true, false}
use mathlib.Core.List.{List}
use mathlib.Core.Logic.{◌⊎◌, ⊎_elim}
use Prim.Native.Nat.{ℕ, zero, suc, ◌+◌, ◌-◌, ◌%◌, ◌^◌, ◌<◌}
use native.Mathlib.Omega.{arith}
use native.Mathlib.Nat.{mod-eq_of_lt}
use Rattle.model.proofs.Basics.{never}
use Rattle.record_answer.specs.Answers.{number_of}
use Rattle.keeper_bench.specs.declared.Bench.{Bench}
use Rattle.program_end.specs.declared.End.{End}
use Rattle.program_end.specs.declared.End.TheVariants.{Done, Refused, Failed, Stopped}
use Rattle.replay_pieces.specs.declared.turn.Progress.{Progress}
use Rattle.replay_pieces.specs.declared.turn.Turn.{Turn}
use Rattle.replay_pieces.specs.Turns.{Turned}
use Rattle.replay_pieces.proofs.Pouring.{poured_none, poured_more}
use Rattle.replay_session.specs.declared.Session.{Session}
use Rattle.replay_session.specs.Sessions.{Ran, Judged, EndedBy, FedTo, Went, Onward, Stepped}

-- ---- ends
pub ran_done : {e : End} → e ≡ Done → Ran e
unfolding Ran
ran_done h = rw h tt

pub ran_failed : {e : End} → e ≡ Failed → Ran e
unfolding Ran
ran_failed h = rw h tt

ran_as : {e f : End} → e ≡ f → Ran f → Ran e
ran_as h r = rw h r

pub ran_stopped : {e : End} → e ≡ Stopped → Ran e
unfolding Ran
ran_stopped h = rw h tt

pub judged_refused : {n : ℕ} {e : End} → (n ≡ 0 → ⊥) → (e ≡ Refused) ⊎ (e ≡ Failed) → Judged n e
judged_refused z h = record { refused = λ y. h; taken = λ y. absurd (z y) }

pub judged_taken : {n : ℕ} {e : End} → n ≡ 0 → Ran e → Judged n e
judged_taken z h = record { refused = λ y. absurd (y z); taken = λ y. h }

ran_ended : (n : ℕ) {e : End} → EndedBy n e → Ran e
ran_ended zero h = ⊎_elim ran_done ran_failed (h.taken (omega arith))
ran_ended (suc n) h = ran_stopped (h.stopped (λ z. omega arith))

pub ended_stopped : {k n : ℕ} {e : End} → k ≡ n → (k ≡ 0 → ⊥) → e ≡ Stopped → EndedBy n e
ended_stopped e z h = record { stopped = λ w. h; taken = λ w. absurd (z (e ∙ w)) }

pub ended_taken : {k n : ℕ} {e : End} → k ≡ n → k ≡ 0 → (e ≡ Done) ⊎ (e ≡ Failed) → EndedBy n e
ended_taken e z h = record { stopped = λ w. absurd (w (sym e ∙ z)); taken = λ w. h }

-- ---- sessions
-- one piece
pub fed_to : {p : Progress} {bytes buffer after : List ℕ} {t : Turn} {s : Session} → Turned p (record { bytes = bytes; buffer = buffer }) t after
    → s.progress ≡ t.progress → EndedBy (number_of t.answer) s.end → FedTo p bytes s
fed_to {p} {bytes} {buffer} {after} {t} u g h = record { turn = t; buffer = buffer; after = after; turned = u; progress = g; ended = h }

onward_none : {p : Progress} {s : Session} → s.progress ≡ p → Ran s.end → Onward p s
onward_none e r = record { on = λ b h. record { poured = rw e h; ran = r } }

pub onward_one : {p : Progress} {bytes : List ℕ} {s : Session} → FedTo p bytes s → Onward p s
onward_one f = record { on = λ b h. record { poured = rw f.progress (poured_more h f.turned); ran = ran_ended _ f.ended } }

-- no piece at all
pub went_none : {b : Bench} {p : Progress} {s : Session} → s.progress ≡ p → p.bench ≡ b → p.pieces ≡ 0 → p.replies ≡ 0 → s.end ≡ Failed → Went b s
went_none {b} {p} g e y z f = record { poured = rw g (poured_none b p e y z); ran = ran_failed f }

-- all of a log, from a progress with no replies
pub went_on : {b : Bench} {p : Progress} {s : Session} → p.bench ≡ b → p.pieces ≡ 0 → p.replies ≡ 0 → Onward p s → Went b s
went_on {b} {p} e y z o = o.on b (poured_none b p e y z)

-- the same with another end
pub went_closed : {b : Bench} {s t : Session} {e : End} → Went b s → t.progress ≡ s.progress → t.end ≡ e → (e ≡ s.end) ⊎ (e ≡ Failed) → Went b t
went_closed w g z h = record { poured = rw g w.poured; ran = ⊎_elim (λ f. ran_as (z ∙ f) w.ran) (λ f. ran_failed (z ∙ f)) h }

-- one after the other
pub onward_on : {p : Progress} {s t : Session} → Onward p s → Onward s.progress t → Onward p t
onward_on o q = record { on = λ b h. q.on b (o.on b h).poured }

pub onward_here : {p : Progress} {bytes : List ℕ} {s : Session} → FedTo p bytes s → Onward s.progress s
onward_here f = onward_none refl (ran_ended _ f.ended)

-- ---- turns
pub stepped_none : {p : Progress} {s : Session} → s.progress ≡ p → Ran s.end → s.more ≡ false → Stepped p s
stepped_none e r m = record { onward = onward_none e r; counted = λ y. never y m }

pub stepped_one : {p : Progress} {bytes : List ℕ} {s : Session} → FedTo p bytes s → Stepped p s
stepped_one f = record { onward = onward_one f; counted = λ m. ap (λ (p : Progress). p.pieces) f.progress ∙ f.turned.pieces }

-- how many turns there can be: none where there is no more to read
unfoldable pub turns_left : Bool → ℕ → ℕ
turns_left true n = 1 + (18446744073709551615 - n)
turns_left false n = 0

pub turns_fewer : (more : Bool) (n m : ℕ) → n < 18446744073709551615 → (more ≡ true → m ≡ (n + 1) % 2 ^ 64) → turns_left more m < turns_left true n
unfolding turns_left
turns_fewer true n m h e =
    let l : n + 1 < 18446744073709551616 = omega arith in
    let z : m ≡ n + 1 = e refl ∙ mod-eq_of_lt l in
    omega arith
turns_fewer false n m h e = omega arith
