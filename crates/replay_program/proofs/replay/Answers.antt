-- A refused table is told; one that is taken is replayed from its bench, and the bench that is saved and told is the last one. Assumes nothing.
use mathlib.Core.Path.{◌≡◌, refl, sym, ap, ◌∙◌}
use mathlib.Core.Logic.{⊎_elim}
use Rattle.model.specs.State.{Loaded}
use Rattle.std.specs.Prelude.{Result, ⊤, Ok, Err}
use Rattle.table.specs.declared.Refusal.{Refusal}
use Rattle.table.specs.Answers.{answer_of}
use Rattle.table.proofs.Handing.{refused}
use Rattle.replay_session.proofs.Sessions.{ran_done, ran_failed, judged_refused, judged_taken}
use Rattle.replay_program.proofs.replay.Goals as goal

-- what is not taken has a number
not_taken : (a : Result ⊤ Refusal) → ((x : ⊤) → a ≡ Ok x → ⊥) → (answer_of a).number ≡ 0 → ⊥
not_taken (Ok x) h e = h x refl
not_taken (Err r) h e = refused r e

-- ---- exits
-- the table is refused
pub returns-in_default : goal.returns-in_default
returns-in_default g c =
    let load = c.load-loaded in
    let number = ap (λ (l : Loaded). l.answer.number) load.ensures in
    judged_refused (λ z. not_taken load.result.answer c.in_default.not-Ok (number ∙ z)) c.refuse.ensures

-- the replay of the log ends early
pub returns-in_default-end : goal.returns-in_default-end
returns-in_default-end g c =
    let load = c.load-loaded in
    let number = ap (λ (l : Loaded). l.answer.number) load.ensures in
    judged_taken (sym number ∙ ap (λ (a : Result ⊤ Refusal). (answer_of a).number) c.in-Ok.is) c.named-session.ensures.ran

-- what was fed, from its bench on
pub keep-kept-requires : goal.keep-kept-requires
keep-kept-requires g c =
    let load = c.load-loaded in
    record {
      load = record { table = c.args.table.now; result = load.result };
      given = refl;
      met = load.ensures;
      taken = ap (λ (a : Result ⊤ Refusal). (answer_of a).number) c.in-Ok.is;
      poured = c.named-session.ensures.poured;
    }

-- the bench cannot be saved
pub returns-in_default-kept : goal.returns-in_default-kept
returns-in_default-kept g c =
    let load = c.load-loaded in
    let number = ap (λ (l : Loaded). l.answer.number) load.ensures in
    judged_taken (sym number ∙ ap (λ (a : Result ⊤ Refusal). (answer_of a).number) c.in-Ok.is) c.keep-kept.ensures

pub tell-requires : goal.tell-requires
tell-requires g c =
    let load = c.load-loaded in
    record {
      load = record { table = c.args.table.now; result = load.result };
      given = refl;
      met = load.ensures;
      taken = ap (λ (a : Result ⊤ Refusal). (answer_of a).number) c.in-Ok.is;
      poured = c.named-session.ensures.poured;
    }

-- the state is told
pub returns : goal.returns
returns g c =
    let load = c.load-loaded in
    let number = ap (λ (l : Loaded). l.answer.number) load.ensures in
    judged_taken (sym number ∙ ap (λ (a : Result ⊤ Refusal). (answer_of a).number) c.in-Ok.is) (⊎_elim ran_done ran_failed c.tell.ensures)
