-- What a method hands back, in the model's words. Assumes nothing.
use Rattle.std.specs.Prelude.{◌≡◌, ℕ, Result, Ok, Err}
use Rattle.model.specs.Records.{Rec, Reply}
use Rattle.model.specs.Methods.{Requested, requested}
use Rattle.request_answer.specs.declared.Reply as request
use Rattle.request_answer.specs.Promises.{reply_of}
use Rattle.keeper_bench.specs.declared.Bench.{Bench}
use Rattle.keeper_bench.specs.declared.methods.Requested as declared
use Rattle.keeper_bench.specs.declared.methods.Unsound.{Unsound}
use Rattle.keeper_bench.specs.Translate.{state_of}

-- a record that a method makes
abbrev pub record_for : ℕ → ℕ → ℕ → Rec
record_for kind p v = record { kind = kind; device = p; value = v }

-- 21 for a bench that is not sound, and then no reply
abbrev pub number_in : Result request.Reply Unsound → ℕ
number_in (Ok r) = 0
number_in (Err u) = 21

abbrev pub reply_in : Result request.Reply Unsound → Reply
reply_in (Ok r) = reply_of r
reply_in (Err u) = record { kind = 0; device = 0; code = 0 }

abbrev pub requested_of : declared.Requested → Requested
requested_of o = record { number = number_in o.outcome; reply = reply_in o.outcome; state = state_of o.bench }

-- what a record on a bench gives, for every bench and every record
pub record Gives (b : Bench) (r : Rec) (o : declared.Requested) : Type 0 where
  pub is : requested_of o ≡ requested (state_of b) r
