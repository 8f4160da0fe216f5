-- Demand 3 over a list of calls that begins with a `load` or a `restore`, with battery changes in between: "After a restore, demand 3's list and
-- the plain keeper start from the saved bench". Assumes nothing.
use Rattle.std.specs.Prelude.{◌≡◌, List, [], ◌∷◌, map, ℕ, ⊤, Result, take}
use Rattle.model.specs.State.{State, load_of}
use Rattle.model.specs.Demand3.{joined, taken_bytes}
use Rattle.table.specs.Answers.{answer_of}
use Rattle.keeper_bench.specs.declared.Bench.{Bench}
use Rattle.keeper_bench.specs.Translate.{state_of}
use Rattle.keeper.specs.Calls.{LoadCall, FeedCall, gave, pieces, LoadMet, FeedMet, Agreed}
use Rattle.saved_answer.specs.declared.SaveRefusal.{SaveRefusal}
use Rattle.saved_answer.specs.Answers.{saving_of, restoring_of}
use Rattle.saved_form.specs.Form.{FORM}
use Rattle.saved_form.specs.Saving.{save_of}
use Rattle.saved_form.specs.Restoring.{restore_of}
use Rattle.saved.specs.declared.Restored as declared
use Rattle.saved.specs.Translate.{saved_of, restored_of}

-- ---- calls of `save` and `restore`, and what their contracts say of one; `after` is the buffer as it is left
pub record SaveCall : Type 0 where
  pub bench : Bench
  pub buffer : List ℕ
  pub result : Result ⊤ SaveRefusal
  pub after : List ℕ

pub record RestoreCall : Type 0 where
  pub bytes : List ℕ
  pub result : declared.Restored

abbrev pub SaveMet : SaveCall → Type 0
SaveMet c = saved_of c.result c.after ≡ save_of (state_of c.bench) c.buffer

abbrev pub RestoreMet : RestoreCall → Type 0
RestoreMet c = restored_of c.result ≡ restore_of c.bytes

-- ---- how a list begins: a table is loaded, or a saved state restored, and taken
pub data Start : Type 0 where
  loading : LoadCall → Start
  restoring : RestoreCall → Start

unfoldable pub bench_at : Start → Bench
bench_at (loading l) = l.result.bench
bench_at (restoring r) = r.result.bench

-- where the plain keeper starts
unfoldable pub state_at : Start → State
state_at (loading l) = (load_of l.table).state
state_at (restoring r) = (restore_of r.bytes).state

unfoldable pub Taken : Start → Type 0
Taken (loading l) = (answer_of l.result.answer).number ≡ 0
Taken (restoring r) = restoring_of r.result.answer ≡ 0

unfoldable pub StartMet : Start → Type 0
StartMet (loading l) = LoadMet l
StartMet (restoring r) = RestoreMet r

-- ---- how it goes on: a piece is fed, or the bench is kept through a battery change, saved and then restored
pub data Call : Type 0 where
  feeding : FeedCall → Call
  keeping : SaveCall → RestoreCall → Call

-- "Each piece gets the bench that the one before it handed back", and so does a save; what is restored are the bytes of the form that it wrote
unfoldable pub Linked : Bench → List Call → Type 0
Linked b [] = Unit {0}
Linked b (feeding c ∷ cs) = (c.bench ≡ b) × Linked c.result.bench cs
Linked b (keeping w r ∷ cs) = (w.bench ≡ b) × (saving_of w.result ≡ 0) × (r.bytes ≡ take FORM w.after) × Linked r.result.bench cs

unfoldable pub last : Bench → List Call → Bench
last b [] = b
last b (feeding c ∷ cs) = last c.result.bench cs
last b (keeping w r ∷ cs) = last r.result.bench cs

-- the calls of `feed` among them
unfoldable pub feeds : List Call → List FeedCall
feeds [] = []
feeds (feeding c ∷ cs) = c ∷ feeds cs
feeds (keeping w r ∷ cs) = feeds cs

unfoldable pub AllMet : List Call → Type 0
AllMet [] = Unit {0}
AllMet (feeding c ∷ cs) = FeedMet c × AllMet cs
AllMet (keeping w r ∷ cs) = SaveMet w × RestoreMet r × AllMet cs

-- ---- the claim: as if there had been no break, the plain keeper is fed the pieces taken and nothing else
abbrev pub AgreedOver : Start → List Call → Type 0
AgreedOver s cs = Agreed (state_at s) (state_of (last (bench_at s) cs)) (feeds cs)

-- the bytes of the pieces taken
abbrev pub taken_by : Start → List Call → List ℕ
taken_by s cs = taken_bytes (state_at s).carry.used (pieces (feeds cs))

-- "the log that follows is answered as if there had been no break": two lists from one start, cut by pieces and by battery changes in any way,
-- that took the same bytes gave the same joined replies and the same bench
pub record Unbroken (s : Start) (cs ds : List Call) : Type 0 where
  pub replies : joined (map gave (feeds cs)) ≡ joined (map gave (feeds ds))
  pub state : state_of (last (bench_at s) cs) ≡ state_of (last (bench_at s) ds)
